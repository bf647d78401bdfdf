-- Document 01, "Header structure": the rules of one index record, each check from 9 to 13 by itself.
use Rattle.std.specs.Prelude.{ℕ, ◌+◌, ◌-◌, ◌*◌, ◌%◌, List, Bool, true, cond, not, ◌||◌, eqb, leb, Option, Some, None}
use Rattle.strings.specs.Strings.{strings_from, is_ended}
use Rattle.format.specs.declared.section.Section.{Section}
use Rattle.format.specs.declared.section.Structure.{Structure}
use Rattle.format.specs.declared.section.Structure.TheVariants.{Signature, Header}
use Rattle.format.specs.declared.records.IndexRecord.{IndexRecord}
use Rattle.format.specs.Places.{record_place, in_file}
use Rattle.format.specs.Records.{index_record_at}
use Rattle.format.specs.Verdicts.{check, Verdict, pass}
use Rattle.repeats.specs.Repeats.{tag_before}
use Rattle.entries.specs.declared.types.ElementSize.{ElementSize}
use Rattle.entries.specs.declared.types.ElementSize.TheVariants.{Bytes, ToZero}
use Rattle.entries.specs.Types.{element_size, is_lawful}

-- index record i of a structure
abbrev pub record_at : List ℕ → Section → ℕ → IndexRecord
record_at s section i = index_record_at s (record_place section i)

-- 9 | type
abbrev pub type_lawful : IndexRecord → Bool
type_lawful e = is_lawful (element_size e.ty)

-- 10 | count: at least 1, and exactly 1 for type 6 and, in the signature, for type 9
abbrev pub is_single : Structure → ℕ → Bool
is_single Signature ty = eqb ty 6 || eqb ty 9
is_single Header ty = eqb ty 6

unfoldable pub count_right : Structure → IndexRecord → Bool
count_right structure e = cond (is_single structure e.ty) (eqb e.count 1) (leb 1 e.count)

-- 11 | alignment: the offset is a multiple of the alignment, which is a fixed size, and 1 for strings
abbrev pub aligned_to : Option ElementSize → ℕ → Bool
aligned_to (Some (Bytes n)) offset = eqb (offset % n) 0
aligned_to (Some ToZero) offset = true
aligned_to None offset = true

abbrev pub is_aligned : IndexRecord → Bool
is_aligned e = aligned_to (element_size e.ty) e.offset.0

-- the place in the file behind the data: size × count bytes from the offset, or count strings in a row; None where they
-- do not end inside the store
abbrev pub end_for : Option ElementSize → List ℕ → Section → IndexRecord → Option ℕ
end_for (Some (Bytes n)) s section e =
    cond (leb (e.offset.0 + n * e.count) section.hsize) (Some (in_file section e.offset + n * e.count)) None
end_for (Some ToZero) s section e = strings_from s (section.hsize - e.offset.0) (in_file section e.offset) e.count
end_for None s section e = None

unfoldable pub data_end : List ℕ → Section → IndexRecord → Option ℕ
data_end s section e = end_for (element_size e.ty) s section e

-- 12 | data not inside the store
abbrev pub is_inside : List ℕ → Section → IndexRecord → Bool
is_inside s section e = is_ended (data_end s section e)

-- 9 to 12 for an index record that starts at a place, with where its data ends
unfoldable pub data_check : Structure → ℕ → IndexRecord → Option ℕ → Verdict
data_check structure place e end =
    check (type_lawful e) 9 place
    (check (count_right structure e) 10 place
    (check (is_aligned e) 11 place
    (check (is_ended end) 12 place
    pass)))

-- 9 to 13 for index record i, which is e and starts at a place, with where its data ends
unfoldable pub entry_check : Structure → List ℕ → Section → ℕ → ℕ → IndexRecord → Option ℕ → Verdict
entry_check structure s section i place e end =
    check (type_lawful e) 9 place
    (check (count_right structure e) 10 place
    (check (is_aligned e) 11 place
    (check (is_ended end) 12 place
    (check (not (tag_before s section i e.tag)) 13 place
    pass))))

abbrev pub record_check : Structure → List ℕ → Section → ℕ → Verdict
record_check structure s section i =
    entry_check structure s section i (record_place section i) (record_at s section i) (data_end s section (record_at s section i))
