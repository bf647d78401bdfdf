-- Requests 1 and 3: the package that is written. Data in list order, packed, with zero bytes for alignment and before H.
use Rattle.std.specs.Prelude.{ℕ, ◌+◌, ◌-◌, List, [], ◌∷◌, ◌++◌, length, take, Option, Some, None}
use Rattle.format.specs.Sizes.{lead_size}
use Rattle.format.specs.Places.{align_up}
use Rattle.format.specs.declared.records.IndexRecord.{IndexRecord}
use Rattle.entries.specs.declared.types.ElementSize.{ElementSize}
use Rattle.entries.specs.declared.types.ElementSize.TheVariants.{Bytes, ToZero}
use Rattle.entries.specs.Types.{element_size}
use Rattle.message_digest.specs.Md5.{digest}
use Rattle.put.specs.Puts.{bytes_of, four_bytes, zeros}
use Rattle.lists.specs.Lists.{ListEntry}
use Rattle.reasons.specs.Reasons.{record_of, with_own}

-- where data of a type goes, at or after a place of the store: a multiple of a fixed size; anywhere for strings
abbrev pub align_for : Option ElementSize → ℕ → ℕ
align_for (Some (Bytes n)) at = align_up n at
align_for (Some ToZero) at = at
align_for None at = at

unfoldable pub offset_for : ℕ → ℕ → ℕ
offset_for ty at = align_for (element_size ty) at

-- where an entry's data goes, the store being filled up to a place; and up to where it is filled then
abbrev pub data_start : ℕ → ListEntry → ℕ
data_start filled entry = offset_for entry.ty filled

abbrev pub data_stop : ℕ → ListEntry → ℕ
data_stop filled entry = data_start filled entry + length entry.bytes

-- an index record: tag, type, offset, count
abbrev pub record_bytes : IndexRecord → List ℕ
record_bytes e = four_bytes e.tag e.ty e.offset.0 e.count

-- the index records and the store of a list, the store being filled up to a place
unfoldable pub index_from : ℕ → List ListEntry → List ℕ
index_from filled [] = []
index_from filled (entry ∷ rest) =
    record_bytes (record_of entry (data_start filled entry)) ++ index_from (data_stop filled entry) rest

unfoldable pub store_from : ℕ → List ListEntry → List ℕ
store_from filled [] = []
store_from filled (entry ∷ rest) =
    zeros (data_start filled entry - filled) ++ (entry.bytes ++ store_from (data_stop filled entry) rest)

-- a header record: 8E AD E8 01, four zero bytes, nindex, hsize
abbrev pub header_bytes : ℕ → ℕ → List ℕ
header_bytes nindex hsize = four_bytes 0x8EADE801 0 nindex hsize

-- the index records of the writer's own entries, whose data comes first in the store: four bytes, then sixteen
abbrev pub own_records : List ℕ
own_records = four_bytes 1000 4 0 1 ++ four_bytes 1004 7 4 16

-- a structure: header record, index, store
unfoldable pub structure_bytes : List ListEntry → List ℕ
structure_bytes entries =
    header_bytes (length entries) (length (store_from 0 entries)) ++ (index_from 0 entries ++ store_from 0 entries)

-- 1000 and 1004 first in the signature: the length less H, which is the header structure's, and its MD5
unfoldable pub signature_of : List ListEntry → List ListEntry → List ListEntry
signature_of signature header = with_own (length (structure_bytes header)) (digest (structure_bytes header)) signature

-- bytes 10-75 of the lead: the name, and zero bytes behind it
abbrev pub name_field : ℕ
name_field = 66

abbrev pub name_bytes : List ℕ → List ℕ
name_bytes name = take name_field name ++ zeros (name_field - length name)

-- bytes 0-3 ED AB EE DB; 4 is 3; 5 is 0; 6-7 type 0; 8-9 free; 10-75 the name; 76-77 system 1; 78-79 signature type 5;
-- 80-95 free. The lead's free bytes are zero.
unfoldable pub lead_bytes : List ℕ → List ℕ
lead_bytes name =
    (bytes_of 0xEDABEEDB ++ (3 ∷ 0 ∷ 0 ∷ 0 ∷ 0 ∷ 0 ∷ [])) ++ (name_bytes name ++ ((0 ∷ 1 ∷ 0 ∷ 5 ∷ []) ++ zeros 16))

-- zero bytes from a place of the file to the next multiple of 8
abbrev pub gap_bytes : ℕ → List ℕ
gap_bytes end = zeros (align_up 8 end - end)

-- lead, signature, zero bytes before H, header; the payload is empty
unfoldable pub written : List ℕ → List ListEntry → List ListEntry → List ℕ
written name signature header =
    lead_bytes name
    ++ (structure_bytes (signature_of signature header)
    ++ (gap_bytes (lead_size + length (structure_bytes (signature_of signature header)))
    ++ structure_bytes header))
