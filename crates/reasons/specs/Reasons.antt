-- Requests 1 and 3: the reasons of refusal 32, which is placed at 0.
use Rattle.std.specs.Prelude.{ℕ, zero, suc, ◌*◌, List, [], ◌∷◌, Bool, false, not, ◌||◌, length, eqb, leb, Option, Some, None}
use Rattle.be.specs.Numbers.{be32_at}
use Rattle.strings.specs.Strings.{strings_from, is_ended}
use Rattle.format.specs.Sizes.{nindex_limit}
use Rattle.format.specs.declared.section.Structure.{Structure}
use Rattle.format.specs.declared.section.Structure.TheVariants.{Signature, Header}
use Rattle.format.specs.declared.records.IndexRecord.{IndexRecord}
use Rattle.format.specs.Verdicts.{check, both, Verdict, pass}
use Rattle.entries.specs.declared.types.ElementSize.{ElementSize}
use Rattle.entries.specs.declared.types.ElementSize.TheVariants.{Bytes, ToZero}
use Rattle.entries.specs.Types.{element_size}
use Rattle.entries.specs.Entries.{type_lawful, count_right}
use Rattle.put.specs.Puts.{bytes_of, zeros}
use Rattle.lists.specs.Lists.{ListEntry, entries_of, is_whole, sizes_meet}

-- an entry's index record, with its data at an offset of the store
abbrev pub record_of : ListEntry → ℕ → IndexRecord
record_of entry offset =
    record { tag = entry.tag; ty = entry.ty; offset = record { 0 = offset }; count = entry.count }

-- its data is exactly what type and count say: size × count bytes, or count strings and nothing behind the last zero
abbrev pub ends_at : Option ℕ → ℕ → Bool
ends_at (Some to) end = eqb to end
ends_at None end = false

abbrev pub exact_for : Option ElementSize → ℕ → List ℕ → Bool
exact_for (Some (Bytes n)) count bytes = eqb (n * count) (length bytes)
exact_for (Some ToZero) count bytes = ends_at (strings_from bytes (length bytes) 0 count) (length bytes)
exact_for None count bytes = false

unfoldable pub data_exact : ℕ → ℕ → List ℕ → Bool
data_exact ty count bytes = exact_for (element_size ty) count bytes

-- one of the tags
unfoldable pub tag_in : ℕ → List ℕ → Bool
tag_in tag [] = false
tag_in tag (first ∷ rest) = eqb first tag || tag_in tag rest

-- an entry of a structure, behind others of which the tags are given: checks 9 and 10, its data, check 13
unfoldable pub entry_reasons : Structure → List ℕ → ListEntry → Verdict
entry_reasons structure seen entry =
    check (type_lawful (record_of entry 0)) 32 0
    (check (count_right structure (record_of entry 0)) 32 0
    (check (data_exact entry.ty entry.count entry.bytes) 32 0
    (check (not (tag_in entry.tag seen)) 32 0
    pass)))

unfoldable pub entries_reasons : Structure → List ℕ → List ListEntry → Verdict
entries_reasons structure seen [] = pass
entries_reasons structure seen (entry ∷ rest) =
    both (entry_reasons structure seen entry) (entries_reasons structure (entry.tag ∷ seen) rest)

-- a structure's list: in range for check 7, and each of its entries
unfoldable pub list_reasons : Structure → List ListEntry → Verdict
list_reasons structure entries =
    check (leb 1 (length entries)) 32 0
    (check (leb (length entries) nindex_limit) 32 0
    (entries_reasons structure [] entries))

-- the writer puts 1000 (int32, count 1) and then 1004 (bin, count 16) first into the signature itself
abbrev pub size_tag : ℕ
size_tag = 1000

abbrev pub digest_tag : ℕ
digest_tag = 1004

abbrev pub size_entry : ℕ → ListEntry
size_entry size = record { tag = size_tag; ty = 4; count = 1; bytes = bytes_of size }

abbrev pub digest_entry : List ℕ → ListEntry
digest_entry digest = record { tag = digest_tag; ty = 7; count = 16; bytes = digest }

-- its own entries, with a number and a digest, before the caller's
abbrev pub with_own : ℕ → List ℕ → List ListEntry → List ListEntry
with_own size digest signature = size_entry size ∷ digest_entry digest ∷ signature

-- a name: 1 to 65 bytes, none zero
abbrev pub name_limit : ℕ
name_limit = 65

abbrev pub has_zero : List ℕ → Bool
has_zero name = is_ended (strings_from name (length name) 0 1)

unfoldable pub name_reasons : List ℕ → Verdict
name_reasons name =
    check (leb 1 (length name)) 32 0
    (check (leb (length name) name_limit) 32 0
    (check (not (has_zero name)) 32 0
    pass))

-- a list as it is lent: well-formed
unfoldable pub form_reasons : List ℕ → List ℕ → Verdict
form_reasons list row =
    check (is_whole list) 32 0
    (check (sizes_meet list row) 32 0
    pass)

-- 32 for a name and two lists as they are lent. The signature's list is tested with the 1000 and the 1004 that come first, so
-- that one of the caller's is a repeated tag; they pass whatever the number and the 16 bytes are.
unfoldable pub reasons : List ℕ → List ℕ → List ℕ → List ℕ → List ℕ → Verdict
reasons name signature signatureRow header headerRow =
    both (form_reasons signature signatureRow)
    (both (form_reasons header headerRow)
    (both (name_reasons name)
    (both (list_reasons Signature (with_own 0 (zeros 16) (entries_of signature signatureRow)))
    (list_reasons Header (entries_of header headerRow)))))

-- for the walk over a structure's lent list: the tags before entry i, with those of the writer's own entries in the signature
abbrev pub own_tags : Structure → List ℕ
own_tags Signature = digest_tag ∷ size_tag ∷ []
own_tags Header = []

unfoldable pub tags_before : Structure → List ℕ → ℕ → List ℕ
tags_before structure list zero = own_tags structure
tags_before structure list (suc i) = be32_at list (16 * i) ∷ tags_before structure list i

-- an entry of a lent list of which it is known whether one before it has its tag: the tests of `entry_reasons`
unfoldable pub known_reasons : Structure → Bool → ListEntry → Verdict
known_reasons structure repeated entry =
    check (type_lawful (record_of entry 0)) 32 0
    (check (count_right structure (record_of entry 0)) 32 0
    (check (data_exact entry.ty entry.count entry.bytes) 32 0
    (check (not (tag_in entry.tag (own_tags structure))) 32 0
    (check (not repeated) 32 0
    pass))))
