-- Requests 1 and 3: what may be written, as rules with no order.
use Rattle.std.specs.Prelude.{ℕ, ◌+◌, ◌*◌, ◌≤◌, ◌<◌, ◌≡◌, ◌≢◌, List, [], length, get_or, Some}
use Rattle.strings.specs.Strings.{in_row}
use Rattle.format.specs.declared.section.Structure.{Structure}
use Rattle.format.specs.declared.section.Structure.TheVariants.{Signature, Header}
use Rattle.format.specs.Sizes.{package_limit, nindex_limit}
use Rattle.entries.specs.declared.types.ElementSize.TheVariants.{Bytes, ToZero}
use Rattle.entries.specs.Types.{element_size}
use Rattle.lists.specs.Lists.{ListEntry, list_of, row_of}
use Rattle.reasons.specs.Reasons.{size_tag, digest_tag, name_limit}
use Rattle.layout.specs.Layout.{written}

abbrev pub nth : List ListEntry → ℕ → ListEntry
nth entries i = get_or entries i (record { tag = 0; ty = 0; count = 0; bytes = [] })

-- bytes that are so many strings in a row, each with its zero byte, and nothing behind the last
pub record Strings (bytes : List ℕ) (count : ℕ) : Type 0 where
  pub texts : List (List ℕ)
  pub number : length texts ≡ count
  pub row : bytes ≡ in_row texts
  pub whole : (k i : ℕ) → k < length texts → i < length (get_or texts k []) → get_or (get_or texts k []) i 0 ≢ 0

-- an entry that a structure, signature or header, may hold, with data that is exactly what type and count say
pub record LawfulEntry (structure : Structure) (entry : ListEntry) : Type 0 where
  -- types 0, 5 and 10 upward are refused
  pub type' : (1 ≤ entry.ty) × (entry.ty ≢ 5) × (entry.ty ≤ 9)
  -- count is at least 1, and exactly 1 for type 6 and, in the signature, for type 9
  pub count : 1 ≤ entry.count
  pub single : entry.ty ≡ 6 → entry.count ≡ 1
  pub translated : structure ≡ Signature → entry.ty ≡ 9 → entry.count ≡ 1
  -- size × count bytes, or count strings
  pub fixed : (n : ℕ) → element_size entry.ty ≡ Some (Bytes n) → length entry.bytes ≡ n * entry.count
  pub strings : element_size entry.ty ≡ Some ToZero → Strings entry.bytes entry.count

-- each entry lawful, no tag twice
pub record LawfulEntries (structure : Structure) (entries : List ListEntry) : Type 0 where
  pub each : (i : ℕ) → i < length entries → LawfulEntry structure (nth entries i)
  pub once : (i j : ℕ) → i < length entries → j < i → (nth entries j).tag ≢ (nth entries i).tag

-- 1 to 65 bytes, none zero
pub record LawfulName (name : List ℕ) : Type 0 where
  pub some : 1 ≤ length name
  pub within : length name ≤ name_limit
  pub nonzero : (i : ℕ) → i < length name → get_or name i 0 ≢ 0

-- an entry's four numbers, 32 bits each: tag, type, count, and the size of its data
abbrev pub WideEntry : ListEntry → Type 0
WideEntry entry =
    (entry.tag < 4294967296) × (entry.ty < 4294967296) × (entry.count < 4294967296)
    × (length entry.bytes < 4294967296)

abbrev pub Wide : List ListEntry → Type 0
Wide entries = (i : ℕ) → i < length entries → WideEntry (nth entries i)

-- a list of entries as it is lent: each entry's four numbers in 16 bytes, and the data in a row
pub record LentAs (list row : List ℕ) (entries : List ListEntry) : Type 0 where
  pub numbers : list ≡ list_of entries
  pub rows : row ≡ row_of entries
  pub wide : Wide entries

-- what may be written into a buffer with so much room
pub record LawfulWriting (name signature signatureRow header headerRow : List ℕ) (room : ℕ) : Type 0 where
  pub named : LawfulName name
  -- two lists of entries
  pub signed : List ListEntry
  pub signed_lent : LentAs signature signatureRow signed
  pub headed : List ListEntry
  pub headed_lent : LentAs header headerRow headed
  -- in range for check 7, counting the 1000 and the 1004 that come first in the signature
  pub few_signed : length signed + 2 ≤ nindex_limit
  pub some_headed : 1 ≤ length headed
  pub few_headed : length headed ≤ nindex_limit
  -- lawful, and none of the signature's is 1000 or 1004
  pub signed_lawful : LawfulEntries Signature signed
  pub not_size : (i : ℕ) → i < length signed → (nth signed i).tag ≢ size_tag
  pub not_digest : (i : ℕ) → i < length signed → (nth signed i).tag ≢ digest_tag
  pub headed_lawful : LawfulEntries Header headed
  -- within limit and room
  pub limit : length (written name signed headed) ≤ package_limit
  pub fits : length (written name signed headed) ≤ room
