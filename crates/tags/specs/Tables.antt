-- What a structure shows for the catalogue's tags, as a table of records: a slot for each tag.
use Rattle.std.specs.Prelude.{ℕ, zero, suc, ◌+◌, ◌-◌, List, Bool, cond, ◌&&◌, get_or, set, replicate, eqb, leb, Option, Some, None, is_some}
use Rattle.format.specs.declared.section.Section.{Section}
use Rattle.format.specs.declared.records.IndexRecord.{IndexRecord}
use Rattle.entries.specs.Entries.{record_at}
use Rattle.tags.specs.declared.Found.{Found}
use Rattle.tags.specs.declared.Table.{Table}
use Rattle.tags.specs.Tags.{Look}

abbrev pub slots : ℕ
slots = 115

-- 1000 to 1055, 1080 to 1132, 1064, 20001, 20002, 62, 63 and 100 have a slot; any other tag has none
unfoldable pub slot_of : ℕ → Option ℕ
slot_of tag =
    cond (leb 1000 tag && leb tag 1055) (Some (tag - 1000))
    (cond (leb 1080 tag && leb tag 1132) (Some (tag - 1024))
    (cond (eqb tag 1064) (Some 109)
    (cond (eqb tag 20001) (Some 110)
    (cond (eqb tag 20002) (Some 111)
    (cond (eqb tag 62) (Some 112)
    (cond (eqb tag 63) (Some 113)
    (cond (eqb tag 100) (Some 114)
    None)))))))

-- what a slot holds
abbrev pub record_in : List (Option Found) → ℕ → Option Found
record_in records k = get_or records k None

-- the record of a tag, of what the tag's slot holds
abbrev pub with_tag : ℕ → Option Found → Option IndexRecord
with_tag tag (Some f) = Some (record { tag = tag; ty = f.ty; offset = f.offset; count = f.count })
with_tag tag None = None

-- what a table shows for a tag: the record of that tag with the type, offset and count in the tag's slot
abbrev pub slot_shows : Table → Option ℕ → ℕ → Option IndexRecord
slot_shows table (Some k) tag = with_tag tag (record_in table.slots k)
slot_shows table None tag = None

unfoldable pub shown_by : Table → Look
shown_by table tag = slot_shows table (slot_of tag) tag

-- a record's type, offset and count
abbrev pub behind_tag : IndexRecord → Found
behind_tag e = record { ty = e.ty; offset = e.offset; count = e.count }

-- a table with a record in its tag's slot, where it has one
abbrev pub noted_in : IndexRecord → Table → Option ℕ → Table
noted_in e table (Some k) = record { slots = set table.slots k (Some (behind_tag e)) }
noted_in e table None = table

unfoldable pub noted : IndexRecord → Table → Table
noted e table = noted_in e table (slot_of e.tag)

abbrev pub empty_table : Table
empty_table = record { slots = replicate slots None }

-- a table with n index records from number i on; the first record of a tag is the one that stays
unfoldable pub gathered_from : List ℕ → Section → Table → ℕ → ℕ → Table
gathered_from s section table zero i = table
gathered_from s section table (suc n) i = noted (record_at s section i) (gathered_from s section table n (i + 1))

-- a table with the records of an index
abbrev pub gathered : List ℕ → Section → Table → Table
gathered s section table = gathered_from s section table section.nindex 0

abbrev pub has_slot : ℕ → Bool
has_slot tag = is_some (slot_of tag)

-- a look-up that shows the tags with a slot alone
abbrev pub with_slots : Look → Look
with_slots look tag = cond (has_slot tag) (look tag) None
