-- Request 1: per structure, a list of entries (tag, type, count, data) in the wanted order; and the form in which it is lent:
-- 16 bytes an entry (tag, type, count, size of its data), and the entries' data in a row, in list order.
use Rattle.std.specs.Prelude.{ℕ, zero, suc, ◌+◌, ◌*◌, ◌/◌, ◌%◌, List, [], ◌∷◌, ◌++◌, Bool, cond, length, take, drop, eqb, leb}
use Rattle.be.specs.Numbers.{be32_at}
use Rattle.put.specs.Puts.{four_bytes}
use Rattle.lists.specs.declared.ListRecord.{ListRecord}

pub record ListEntry : Type 0 where
  pub tag : ℕ
  pub ty : ℕ
  pub count : ℕ
  pub bytes : List ℕ

-- a list as it is lent
unfoldable pub list_of : List ListEntry → List ℕ
list_of [] = []
list_of (entry ∷ rest) = four_bytes entry.tag entry.ty entry.count (length entry.bytes) ++ list_of rest

unfoldable pub row_of : List ListEntry → List ℕ
row_of [] = []
row_of (entry ∷ rest) = entry.bytes ++ row_of rest

-- the entries of any two slices
abbrev pub list_record_at : List ℕ → ℕ → ListRecord
list_record_at list i =
    record {
      tag = be32_at list (16 * i);
      ty = be32_at list (16 * i + 4);
      count = be32_at list (16 * i + 8);
      size = be32_at list (16 * i + 12);
    }

-- what is shown of entry i: zeros where the list does not have it whole
unfoldable pub record_shown : List ℕ → ℕ → ListRecord
record_shown list i =
    cond (leb (16 * i + 16) (length list)) (list_record_at list i) (record { tag = 0; ty = 0; count = 0; size = 0 })

abbrev pub size_at : List ℕ → ℕ → ℕ
size_at list i = (list_record_at list i).size

-- an entry, of its 16 bytes and its data, which starts at a place of the row
abbrev pub entry_of : ListRecord → List ℕ → ListEntry
entry_of e bytes = record { tag = e.tag; ty = e.ty; count = e.count; bytes = bytes }

abbrev pub entry_at : List ℕ → List ℕ → ℕ → ℕ → ListEntry
entry_at list row i at = entry_of (list_record_at list i) (take (size_at list i) (drop at row))

-- n entries from number i on, whose data lies in a row from a place on
unfoldable pub entries_from : List ℕ → List ℕ → ℕ → ℕ → ℕ → List ListEntry
entries_from list row zero i at = []
entries_from list row (suc n) i at = entry_at list row i at ∷ entries_from list row n (i + 1) (at + size_at list i)

abbrev pub entries_of : List ℕ → List ℕ → List ListEntry
entries_of list row = entries_from list row (length list / 16) 0 0

-- ill-formed: a length that is no multiple of 16
abbrev pub is_whole : List ℕ → Bool
is_whole list = eqb (length list % 16) 0

-- ill-formed: an entry whose size passes the end of the data, or data that belongs to no entry
unfoldable pub sizes_from : List ℕ → ℕ → ℕ → ℕ
sizes_from list zero i = 0
sizes_from list (suc n) i = size_at list i + sizes_from list n (i + 1)

abbrev pub sizes_meet : List ℕ → List ℕ → Bool
sizes_meet list row = eqb (sizes_from list (length list / 16) 0) (length row)
