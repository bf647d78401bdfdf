-- Document 01, "Numbers the station shows": what element look-ups promise, as statements over the definitions of this
-- crate. Each is proved in proofs/ under its name in small letters: ElementExact as element_exact.
use Rattle.std.specs.Prelude.{ℕ, zero, suc, ◌+◌, ◌-◌, ◌*◌, ◌≤◌, ◌<◌, ◌≡◌, ◌↔◌, ◌≢◌, List, [], ◌∷◌, ◌++◌, length, get_or, take, drop, Some, Ok}
use Rattle.strings.specs.Strings.{strings_from}
use Rattle.format.specs.declared.section.Section.{Section}
use Rattle.format.specs.declared.records.IndexRecord.{IndexRecord}
use Rattle.format.specs.Places.{section_end}
use Rattle.format.specs.Verdicts.{number_of, Answer, pass}
use Rattle.entries.specs.declared.types.ElementSize.TheVariants.{Bytes, ToZero}
use Rattle.entries.specs.Types.{element_size}
use Rattle.entries.specs.Entries.{record_at}
use Rattle.index.specs.declared.Entry.{Entry}
use Rattle.package.specs.Package.{sound_check, structure_of}
use Rattle.lookups.specs.Lookup.{sought, entry_bytes, find_bytes}
use Rattle.lookups.specs.Theorems.{RecordFor, data_place}
use Rattle.elements.specs.Elements.{element_of, find_element_bytes, find_element_answer}

-- The number is 0 exactly when the part is not empty: the two calls agree.
abbrev pub ElementAnswersAgree : Type 0
ElementAnswersAgree =
    (s : List ℕ) (which tag ty k : ℕ)
    → (number_of (find_element_answer s which tag ty k) ≡ 0) ↔ (find_element_bytes s which tag ty k ≢ [])

-- Element k is shown exactly when data is and k is below the count of the record that has the tag and the type.
abbrev pub ElementExact : Type 0
ElementExact =
    (s : List ℕ) (which tag ty k : ℕ)
    → (find_element_bytes s which tag ty k ≢ [])
    ↔ ((sound_check s ≡ pass) × (i : ℕ) × RecordFor s (structure_of s which) tag ty i
    × (k < (record_at s (structure_of s which) i).count))

-- a single string: its text, in which no byte is zero, and its zero byte
pub record SingleString (bytes : List ℕ) : Type 0 where
  pub text : List ℕ
  pub ended : bytes ≡ text ++ (0 ∷ [])
  pub nonzero : (i : ℕ) → i < length text → get_or text i 0 ≢ 0

-- What is shown for element k of an index record: for a fixed size n the n bytes from n × k behind the data's start;
-- for strings the single string that starts where the k strings before it end. It lies in the store. The answer is 0
-- with the place where it starts.
pub record ShowsElement (s : List ℕ) (section : Section) (e : IndexRecord) (k : ℕ) (shown : List ℕ) (answer : Answer)
    : Type 0 where
  pub from : ℕ
  pub fixed : (n : ℕ) → element_size e.ty ≡ Some (Bytes n) → (from ≡ data_place section e + n * k) × (length shown ≡ n)
  pub strings : element_size e.ty ≡ Some ToZero
      → (strings_from s (from - data_place section e) (data_place section e) k ≡ Some from) × SingleString shown
  pub inside : from + length shown ≤ section_end section
  pub part : shown ≡ take (length shown) (drop from s)
  pub place : answer ≡ Ok from

abbrev pub ElementShows : Type 0
ElementShows =
    (s : List ℕ) (which tag ty i k : ℕ) → sound_check s ≡ pass → RecordFor s (structure_of s which) tag ty i
    → k < (record_at s (structure_of s which) i).count
    → ShowsElement s (structure_of s which) (record_at s (structure_of s which) i) k (find_element_bytes s which tag ty k)
    (find_element_answer s which tag ty k)

-- the bytes of n elements of an entry from number k on, in a row
unfoldable pub elements_from : List ℕ → Entry → ℕ → ℕ → List ℕ
elements_from s entry zero k = []
elements_from s entry (suc n) k = entry_bytes s (element_of s entry k) ++ elements_from s entry n (k + 1)

-- The elements of an entry that was found, 0 to count - 1 in a row, are its data: none is missing and none overlaps.
abbrev pub ElementsInARow : Type 0
ElementsInARow =
    (s : List ℕ) (which tag ty : ℕ) (entry : Entry) → sought s which tag ty ≡ Ok entry
    → elements_from s entry entry.count 0 ≡ entry_bytes s entry

-- what n element look-ups from element k on show, in a row
unfoldable pub elements_shown : List ℕ → ℕ → ℕ → ℕ → ℕ → ℕ → List ℕ
elements_shown s which tag ty zero k = []
elements_shown s which tag ty (suc n) k = find_element_bytes s which tag ty k ++ elements_shown s which tag ty n (k + 1)

-- The same of what is shown, with the count of the record that has the tag and the type.
abbrev pub ElementsShown : Type 0
ElementsShown =
    (s : List ℕ) (which tag ty k : ℕ) → sound_check s ≡ pass → RecordFor s (structure_of s which) tag ty k
    → elements_shown s which tag ty (record_at s (structure_of s which) k).count 0 ≡ find_bytes s which tag ty
