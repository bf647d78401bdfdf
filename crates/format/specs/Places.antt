-- Document 01, "Header structure": where the parts of a structure lie. A structure is its header record, nindex index
-- records and hsize bytes of store.
use Rattle.std.specs.Prelude.{ℕ, ◌+◌, ◌-◌, ◌*◌, ◌/◌}
use Rattle.format.specs.declared.section.Section.{Section}
use Rattle.places.specs.declared.StoreOffset.{StoreOffset}
use Rattle.format.specs.Sizes.{header_record_size, index_record_size}

abbrev pub record_place : Section → ℕ → ℕ
record_place section i = section.start.0 + header_record_size + index_record_size * i

abbrev pub store_place : Section → ℕ
store_place section = section.start.0 + header_record_size + index_record_size * section.nindex

abbrev pub section_end : Section → ℕ
section_end section = store_place section + section.hsize

-- a place in the store, as a place in the file
abbrev pub in_file : Section → StoreOffset → ℕ
in_file section offset = store_place section + offset.0

-- the first multiple of a number at or after a place
abbrev pub align_up : ℕ → ℕ → ℕ
align_up n place = (place + (n - 1)) / n * n
