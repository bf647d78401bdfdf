-- Document 01, "Header structure" and checks 5 to 13 for a structure, signature or header, at a place of the file. The package's length is a
-- number of its own; bytes past the end of the list read as 0.
use Rattle.std.specs.Prelude.{ℕ, ◌+◌, List, Bool, eqb, leb}
use Rattle.format.specs.declared.section.Section.{Section}
use Rattle.format.specs.declared.section.Structure.{Structure}
use Rattle.format.specs.declared.records.HeaderRecord.{HeaderRecord}
use Rattle.format.specs.Sizes.{header_record_size, nindex_limit}
use Rattle.format.specs.Places.{section_end}
use Rattle.format.specs.Records.{header_record_at}
use Rattle.format.specs.Verdicts.{check, both, run_from, Verdict, pass}
use Rattle.entries.specs.Entries.{record_check}

-- the structure that a header record describes
abbrev pub section_of : ℕ → HeaderRecord → Section
section_of start h = record { start = record { 0 = start }; nindex = h.nindex; hsize = h.hsize }

abbrev pub section_at : List ℕ → ℕ → Section
section_at s start = section_of start (header_record_at s start)

-- 5 | no 16 bytes left for a header record
abbrev pub header_fits : ℕ → ℕ → Bool
header_fits len start = leb (start + header_record_size) len

-- 6 | magic or reserved wrong: 8E AD E8 01, four zero bytes
abbrev pub magic_right : HeaderRecord → Bool
magic_right h = eqb h.magic 0x8EADE801

abbrev pub reserved_right : HeaderRecord → Bool
reserved_right h = eqb h.reserved 0

-- 7 | nindex 0 or over 512
abbrev pub nindex_some : HeaderRecord → Bool
nindex_some h = leb 1 h.nindex

abbrev pub nindex_within : HeaderRecord → Bool
nindex_within h = leb h.nindex nindex_limit

-- 8 | structure passes the package's end
abbrev pub structure_fits : ℕ → ℕ → HeaderRecord → Bool
structure_fits len start h = leb (section_end (section_of start h)) len

-- 5 to 8 for the header record at a place, with their places
unfoldable pub header_check : ℕ → ℕ → HeaderRecord → Verdict
header_check len start h =
    check (header_fits len start) 5 start
    (check (magic_right h) 6 start
    (check (reserved_right h) 6 (start + 4)
    (check (nindex_some h) 7 (start + 8)
    (check (nindex_within h) 7 (start + 8)
    (check (structure_fits len start h) 8 (start + 12)
    pass)))))

-- 9 to 13 for each index record, in order
abbrev pub records_check : Structure → List ℕ → Section → Verdict
records_check structure s section = run_from (record_check structure s section) section.nindex 0

-- 5 to 13
unfoldable pub structure_check : Structure → List ℕ → ℕ → ℕ → Verdict
structure_check structure s len start =
    both (header_check len start (header_record_at s start)) (records_check structure s (section_at s start))
