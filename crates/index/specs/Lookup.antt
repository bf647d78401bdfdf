-- Document 01, "Numbers the station shows", on look-ups: the entry with a tag and a type.
use Rattle.std.specs.Prelude.{ℕ, zero, suc, ◌+◌, ◌-◌, List, [], Bool, cond, ◌&&◌, eqb, take, drop, Option, Some, None}
use Rattle.format.specs.declared.section.Section.{Section}
use Rattle.format.specs.declared.records.IndexRecord.{IndexRecord}
use Rattle.be.specs.Numbers.{be32_at}
use Rattle.format.specs.Places.{in_file, record_place}
use Rattle.index.specs.declared.Entry.{Entry}
use Rattle.entries.specs.Entries.{record_at, data_end}

-- how many bytes lie between a place and an end
abbrev pub extent_to : ℕ → Option ℕ → ℕ
extent_to from (Some to) = to - from
extent_to from None = 0

-- an entry: its type and count, where its data starts in the file, and how many bytes it has
abbrev pub entry_of : Section → IndexRecord → Option ℕ → Entry
entry_of section e end =
    record {
      ty = e.ty;
      count = e.count;
      at = record { 0 = in_file section e.offset };
      extent = extent_to (in_file section e.offset) end;
    }

abbrev pub entry_at : List ℕ → Section → ℕ → Entry
entry_at s section i = entry_of section (record_at s section i) (data_end s section (record_at s section i))

abbrev pub is_for : ℕ → ℕ → IndexRecord → Bool
is_for tag ty e = eqb e.tag tag && eqb e.ty ty

-- the first of n index records from number i on that has the tag and the type
unfoldable pub find_from : List ℕ → Section → ℕ → ℕ → ℕ → ℕ → Option Entry
find_from s section zero i tag ty = None
find_from s section (suc n) i tag ty =
    cond (is_for tag ty (record_at s section i)) (Some (entry_at s section i)) (find_from s section n (i + 1) tag ty)

abbrev pub find_in : List ℕ → Section → ℕ → ℕ → Option Entry
find_in s section tag ty = find_from s section section.nindex 0 tag ty

-- the bytes of an entry that was found; none where nothing was
abbrev pub found_bytes : List ℕ → Option Entry → List ℕ
found_bytes s (Some entry) = take entry.extent (drop entry.at.0 s)
found_bytes s None = []

-- the first of n index records from number i on that has the tag
unfoldable pub tagged_from : List ℕ → Section → ℕ → ℕ → ℕ → Option IndexRecord
tagged_from s section zero i tag = None
tagged_from s section (suc n) i tag =
    cond (eqb (be32_at s (record_place section i)) tag) (Some (record_at s section i)) (tagged_from s section n (i + 1) tag)

abbrev pub tagged_in : List ℕ → Section → ℕ → Option IndexRecord
tagged_in s section tag = tagged_from s section section.nindex 0 tag

-- the entry of a record that was found by its tag
abbrev pub entry_for : List ℕ → Section → Option IndexRecord → Option Entry
entry_for s section (Some e) = Some (entry_of section e (data_end s section e))
entry_for s section None = None
