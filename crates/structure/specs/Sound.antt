-- Document 01, "Header structure", as it says what a right structure is: no order and no numbers.
use Rattle.std.specs.Prelude.{ℕ, ◌+◌, ◌*◌, ◌≤◌, ◌≡◌, List, true, Some}
use Rattle.strings.specs.Strings.{strings_from}
use Rattle.format.specs.declared.records.HeaderRecord.{HeaderRecord}
use Rattle.format.specs.Sizes.{header_record_size, nindex_limit}
use Rattle.format.specs.Places.{section_end}
use Rattle.entries.specs.declared.types.ElementSize.TheVariants.{Bytes, ToZero}
use Rattle.index.specs.declared.Entry.{Entry}
use Rattle.entries.specs.Types.{element_size, is_lawful}
use Rattle.structure.specs.Structure.{section_of}

-- a header record in a package of len bytes
pub record SoundHeader (len start : ℕ) (h : HeaderRecord) : Type 0 where
  pub room : start + header_record_size ≤ len
  pub magic : h.magic ≡ 0x8EADE801
  pub reserved : h.reserved ≡ 0
  pub some : 1 ≤ h.nindex
  pub within : h.nindex ≤ nindex_limit
  pub fits : section_end (section_of start h) ≤ len

-- an entry: lawful type, at least one element, data in the package; a fixed size times the count, or count strings in a
-- row that end where the data does
pub record SoundEntry (s : List ℕ) (len : ℕ) (entry : Entry) : Type 0 where
  pub lawful : is_lawful (element_size entry.ty) ≡ true
  pub some : 1 ≤ entry.count
  pub bytes : 1 ≤ entry.extent
  pub inside : entry.at.0 + entry.extent ≤ len
  pub fixed : (n : ℕ) → element_size entry.ty ≡ Some (Bytes n) → entry.extent ≡ n * entry.count
  pub strings : element_size entry.ty ≡ Some ToZero
      → strings_from s entry.extent entry.at.0 entry.count ≡ Some (entry.at.0 + entry.extent)
