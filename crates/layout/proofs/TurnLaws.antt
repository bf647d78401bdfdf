-- A walk over a lent list that lays its entries out, turn by turn: the row that is left (row_turn), an entry's data and where
-- it goes (bytes_here, start_here, stop_here), the store from there on (store_here, store_length) and its end (end_turn, end_spent); the place in the row as a
-- number of the entries that are left (place_first, place_next).
use Prim.Native.Nat.{ℕ, ◌+◌, ◌-◌, ◌*◌, ◌/◌, ◌≤◌, ◌<◌}
use native.Mathlib.Nat.{sub-zero}
use mathlib.Core.Path.{◌≡◌, sym, ap, ◌∙◌}
use mathlib.Core.List.{List, ◌++◌}
use lib.ListN.{length, take, drop, length-append, length-replicate, length-take, length-drop}
use native.Mathlib.Omega.{arith}
use Rattle.put.specs.Puts.{zeros}
use Rattle.lists.specs.declared.ListRecord.{ListRecord}
use Rattle.lists.specs.Lists.{list_record_at, record_shown, size_at, entry_at, entries_from, sizes_from}
use Rattle.lists.proofs.ListLaws.{record_whole, entries_step, entries_none, sizes_step}
use Rattle.layout.specs.Layout.{offset_for, data_start, data_stop, store_from}
use Rattle.layout.proofs.StructureLaws.{store_step, store_none}

-- in the shape of what is known in a turn
module _ (list row : List ℕ) (n i at filled : ℕ) (w : 16 * n ≤ length list) (f : at + sizes_from list (n - i) i ≡ length row)
    (l : i < n) {e : ListRecord} (q : e ≡ record_shown list i) where
  pub record_here : e ≡ list_record_at list i
  record_here = record_whole list n i w l q

  pub sizes_here : sizes_from list (n - i) i ≡ e.size + sizes_from list (n - (i + 1)) (i + 1)
  sizes_here = sizes_step list n i l ∙ rw record_here

  pub row_turn : at + e.size + sizes_from list (n - (i + 1)) (i + 1) ≡ length row
  row_turn = let k = sizes_here in omega arith

  pub bytes_long : length (take e.size (drop at row)) ≡ e.size
  bytes_long =
      let a = sizes_here in
      let b = length-take e.size (drop at row) in
      let c = length-drop at row in
      omega arith

  pub bytes_here : (entry_at list row i at).bytes ≡ take e.size (drop at row)
  bytes_here = rw record_here

  pub next : entries_from list row (n - (i + 1)) (i + 1) (at + size_at list i)
      ≡ entries_from list row (n - (i + 1)) (i + 1) (at + e.size)
  next = rw record_here

  module _ {offset : ℕ} (o : offset ≡ offset_for e.ty filled) where
    pub start_here : data_start filled (entry_at list row i at) ≡ offset
    start_here = sym (o ∙ rw record_here)

    pub stop_here : data_stop filled (entry_at list row i at) ≡ offset + e.size
    stop_here = rw (start_here, bytes_here, bytes_long)

    pub store_length : length (store_from filled (entries_from list row (n - i) i at))
        ≡ (offset - filled) + e.size
        + length (store_from (offset + e.size) (entries_from list row (n - (i + 1)) (i + 1) (at + e.size)))
    store_length =
        let bytes = take e.size (drop at row) in
        let rest = store_from (offset + e.size) (entries_from list row (n - (i + 1)) (i + 1) (at + e.size)) in
        let a = bytes_long in
        let c = length-replicate {A = ℕ} (offset - filled) 0 in
        let d = length-append (zeros (offset - filled)) (bytes ++ rest) in
        let g = length-append bytes rest in
        rw (entries_step list row n i at l) (rw (store_step filled (entry_at list row i at) _)
        (rw (stop_here, start_here, bytes_here, next) (omega arith)))

    pub end_turn : {v : ℕ} → v ≡ filled + length (store_from filled (entries_from list row (n - i) i at)) → filled ≤ offset
        → v ≡ offset + e.size
        + length (store_from (offset + e.size) (entries_from list row (n - (i + 1)) (i + 1) (at + e.size)))
    end_turn inv g = let k = store_length in omega arith

    pub store_here : store_from filled (entries_from list row (n - i) i at)
        ≡ zeros (offset - filled) ++ (take e.size (drop at row)
        ++ store_from (offset + e.size) (entries_from list row (n - (i + 1)) (i + 1) (at + e.size)))
    store_here =
        rw (entries_step list row n i at l) (store_step filled (entry_at list row i at) _
        ∙ rw (stop_here, start_here, bytes_here, next))

module _ (list row : List ℕ) (n i at filled : ℕ) where
  pub end_spent : {v : ℕ} → v ≡ filled + length (store_from filled (entries_from list row (n - i) i at)) → n ≤ i → filled ≡ v
  end_spent inv l =
      let k = ap length (store_none filled) in
      sym (inv ∙ rw (entries_none list row n i at l) (omega arith))

-- where an entry's data starts in the row: behind that of the entries before it
abbrev pub place_of : List ℕ → List ℕ → ℕ → ℕ → ℕ
place_of list row n i = length row - sizes_from list (n - i) i

pub place_first : (list row : List ℕ) {n : ℕ} → n ≡ length list / 16 → sizes_from list (length list / 16) 0 ≡ length row
    → (sizes_from list (n - 0) 0 ≤ length row) × (place_of list row n 0 ≡ 0)
place_first list row e h = rw (e, sub-zero, h) (omega arith, omega arith)

module _ (list row : List ℕ) (n i : ℕ) (w : 16 * n ≤ length list) (s : sizes_from list (n - i) i ≤ length row) (l : i < n)
    {e : ListRecord} (q : e ≡ record_shown list i) where
  pub placed : place_of list row n i + sizes_from list (n - i) i ≡ length row
  placed = omega arith

  pub place_next : (sizes_from list (n - (i + 1)) (i + 1) ≤ length row)
      × (place_of list row n (i + 1) ≡ place_of list row n i + e.size)
  place_next = let k = sizes_here list row n i (place_of list row n i) 0 w placed l q in (omega arith, omega arith)
