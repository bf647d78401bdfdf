-- The parts of a structure, entry by entry (index_step, index_none, store_step, store_none), with the writer's own entries
-- first (own_index, own_store), and how long they are (index_length, structure_length, signature_length).
use Prim.Native.Nat.{ℕ, ◌+◌, ◌-◌, ◌*◌}
use mathlib.Core.Path.{◌≡◌, refl, sym, ap}
use mathlib.Core.List.{List, [], ◌∷◌, ◌++◌, append_assoc}
use lib.ListN.{length, length-append}
use native.Mathlib.Omega.{arith}
use Rattle.entries.specs.Types.{element_size}
use Rattle.put.specs.Puts.{bytes_of, four_bytes, zeros}
use Rattle.put.proofs.PutLaws.{length_bytes_lem, length_four}
use Rattle.lists.specs.Lists.{ListEntry}
use Rattle.reasons.specs.Reasons.{record_of, with_own}
use Rattle.layout.specs.Layout.{own_records, offset_for, record_bytes, data_start, data_stop, index_from, store_from, structure_bytes}

pub index_step : (filled : ℕ) (entry : ListEntry) (rest : List ListEntry)
    → index_from filled (entry ∷ rest)
    ≡ record_bytes (record_of entry (data_start filled entry)) ++ index_from (data_stop filled entry) rest
unfolding index_from
index_step filled entry rest = refl

pub index_none : (filled : ℕ) → index_from filled [] ≡ []
unfolding index_from
index_none filled = refl

pub store_step : (filled : ℕ) (entry : ListEntry) (rest : List ListEntry)
    → store_from filled (entry ∷ rest)
    ≡ zeros (data_start filled entry - filled) ++ (entry.bytes ++ store_from (data_stop filled entry) rest)
unfolding store_from
store_step filled entry rest = refl

pub store_none : (filled : ℕ) → store_from filled [] ≡ []
unfolding store_from
store_none filled = refl

-- 1000 and 1004 first, in the index and in the store
module _ (size : ℕ) (bytes : List ℕ) (entries : List ListEntry) (h : length bytes ≡ 16) where
  pub own_index : index_from 0 (with_own size bytes entries) ≡ own_records ++ index_from 20 entries
  unfolding index_from offset_for element_size bytes_of
  own_index = rw h (sym (append_assoc (four_bytes 1000 4 0 1) (four_bytes 1004 7 4 16) (index_from 20 entries)))

  pub own_store : store_from 0 (with_own size bytes entries) ≡ (bytes_of size ++ bytes) ++ store_from 20 entries
  unfolding store_from offset_for element_size bytes_of
  own_store = rw h (sym (append_assoc (bytes_of size) bytes (store_from 20 entries)))

pub index_length : (filled : ℕ) (entries : List ListEntry) → length (index_from filled entries) ≡ 16 * length entries
unfolding index_from four_bytes bytes_of
index_length filled [] = refl
index_length filled (entry ∷ rest) = let k = index_length (data_stop filled entry) rest in omega arith

-- the structures' lengths
pub structure_length : (entries : List ListEntry)
    → length (structure_bytes entries) ≡ 16 + 16 * length entries + length (store_from 0 entries)
unfolding structure_bytes
structure_length entries =
    let a = index_length 0 entries in
    let b = length-append (index_from 0 entries) (store_from 0 entries) in
    let c = length_four 0x8EADE801 0 (length entries) (length (store_from 0 entries)) in
    let d = length-append (four_bytes 0x8EADE801 0 (length entries) (length (store_from 0 entries)))
    (index_from 0 entries ++ store_from 0 entries) in
    omega arith

pub signature_length : (number : ℕ) (bytes : List ℕ) (entries : List ListEntry) → length bytes ≡ 16
    → length (structure_bytes (with_own number bytes entries))
    ≡ 16 + 16 * (length entries + 2) + (20 + length (store_from 20 entries))
signature_length number bytes entries h =
    let a = structure_length (with_own number bytes entries) in
    let b = ap length (own_store number bytes entries h) in
    let c = length-append (bytes_of number ++ bytes) (store_from 20 entries) in
    let d = length-append (bytes_of number) bytes in
    let e = length_bytes_lem number in
    omega arith
