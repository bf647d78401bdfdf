-- Document 01, "Numbers the station shows": what look-ups promise, as statements over the
-- definitions of this crate. Each is proved in proofs/ under its name in small letters: LookupExact as lookup_exact.
use Rattle.std.specs.Prelude.{ℕ, ◌+◌, ◌*◌, ◌≤◌, ◌<◌, ◌≡◌, ◌↔◌, ◌≢◌, List, [], length, take, drop, Some, Ok, Err}
use Rattle.strings.specs.Strings.{strings_from}
use Rattle.format.specs.declared.section.Section.{Section}
use Rattle.format.specs.declared.records.IndexRecord.{IndexRecord}
use Rattle.format.specs.Places.{store_place, section_end}
use Rattle.format.specs.Verdicts.{number_of, Answer, pass, refusal}
use Rattle.entries.specs.declared.types.ElementSize.TheVariants.{Bytes, ToZero}
use Rattle.entries.specs.Types.{element_size}
use Rattle.entries.specs.Entries.{record_at}
use Rattle.package.specs.Package.{sound_check, structure_of}
use Rattle.lookups.specs.Lookup.{find_bytes, find_answer}

-- index record number k of a structure has the tag and the type
pub record RecordFor (s : List ℕ) (section : Section) (tag ty k : ℕ) : Type 0 where
  pub within : k < section.nindex
  pub tagged : (record_at s section k).tag ≡ tag
  pub typed : (record_at s section k).ty ≡ ty

-- Data is shown exactly when checks 2 to 13 and 28 pass and some index record of the structure has the tag and the type.
abbrev pub LookupExact : Type 0
LookupExact =
    (s : List ℕ) (which tag ty : ℕ)
    → (find_bytes s which tag ty ≢ []) ↔ ((sound_check s ≡ pass) × (k : ℕ) × RecordFor s (structure_of s which) tag ty k)

-- Where checks 2 to 13 and 28 pass and no record has them, the part is empty, with number 25 and place 0.
abbrev pub LookupRefuses : Type 0
LookupRefuses =
    (s : List ℕ) (which tag ty : ℕ) → sound_check s ≡ pass → ((k : ℕ) → RecordFor s (structure_of s which) tag ty k → ⊥)
    → (find_bytes s which tag ty ≡ []) × (find_answer s which tag ty ≡ Err (refusal 25 0))

-- There is one such record at most: no two records of a structure have the same tag.
abbrev pub TagsOnce : Type 0
TagsOnce =
    (s : List ℕ) (which j k : ℕ) → sound_check s ≡ pass
    → j < (structure_of s which).nindex → k < (structure_of s which).nindex
    → (record_at s (structure_of s which) j).tag ≡ (record_at s (structure_of s which) k).tag → j ≡ k

-- where an index record's data starts in the file: the store's start plus the record's own offset
abbrev pub data_place : Section → IndexRecord → ℕ
data_place section e = store_place section + e.offset.0

-- What is shown for an index record: the part from its data's start, as long as its own extent, which is n × count for
-- a fixed size n, and what count strings in a row take for strings. It is not empty, and lies in the store, which lies
-- in the package. The answer is 0 with the place where the part starts.
pub record Shows (s : List ℕ) (section : Section) (e : IndexRecord) (shown : List ℕ) (answer : Answer) : Type 0 where
  pub extent : ℕ
  pub fixed : (n : ℕ) → element_size e.ty ≡ Some (Bytes n) → extent ≡ n * e.count
  pub strings : element_size e.ty ≡ Some ToZero
      → strings_from s extent (data_place section e) e.count ≡ Some (data_place section e + extent)
  pub some : 1 ≤ extent
  pub inside : data_place section e + extent ≤ section_end section
  pub fits : section_end section ≤ length s
  pub part : shown ≡ take extent (drop (data_place section e) s)
  pub size : length shown ≡ extent
  pub place : answer ≡ Ok (data_place section e)

-- For whichever record has the tag and the type, that record's own data is shown.
abbrev pub LookupShows : Type 0
LookupShows =
    (s : List ℕ) (which tag ty k : ℕ) → sound_check s ≡ pass → RecordFor s (structure_of s which) tag ty k
    → Shows s (structure_of s which) (record_at s (structure_of s which) k) (find_bytes s which tag ty)
    (find_answer s which tag ty)

-- The number is 0 exactly when the part is not empty: the two calls agree.
abbrev pub AnswersAgree : Type 0
AnswersAgree =
    (s : List ℕ) (which tag ty : ℕ) → (number_of (find_answer s which tag ty) ≡ 0) ↔ (find_bytes s which tag ty ≢ [])
