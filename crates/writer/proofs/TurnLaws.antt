-- A walk over a lent list that puts its entries, turn by turn: the index (index_turn, index_spent), and the store by runs of
-- data (run_turn, gap_turn, store_spent, and the room that is left: run_next, gap_next).
use Prim.Native.Nat.{ℕ, ◌+◌, ◌-◌, ◌*◌, ◌≤◌, ◌<◌}
use mathlib.Core.Path.{◌≡◌, sym, ap, ◌∙◌}
use mathlib.Core.List.{List, ◌++◌, append_assoc, append-nil}
use lib.ListN.{length, take, drop, length-append, length-replicate}
use lib.Seq.{sets}
use native.Mathlib.Omega.{arith}
use Rattle.be.proofs.ByteLaws.{part_join, length_part}
use Rattle.put.specs.Puts.{zeros, four_bytes}
use Rattle.put.proofs.PutLaws.{sets_append, length_four}
use Rattle.lists.specs.declared.ListRecord.{ListRecord}
use Rattle.lists.specs.Lists.{record_shown, entry_at, entries_from, sizes_from}
use Rattle.lists.proofs.ListLaws.{entries_step, entries_none}
use Rattle.reasons.specs.Reasons.{record_of}
use Rattle.layout.specs.Layout.{record_bytes, offset_for, index_from, store_from}
use Rattle.layout.proofs.StructureLaws.{index_step, index_none, store_none}
use Rattle.layout.proofs.TurnLaws as turn

-- in the shape of what is known in a turn
module _ (list row : List ℕ) (n i at filled : ℕ) (w : 16 * n ≤ length list) (f : at + sizes_from list (n - i) i ≡ length row)
    (l : i < n) {e : ListRecord} (q : e ≡ record_shown list i) {offset : ℕ} (o : offset ≡ offset_for e.ty filled) where
  pub index_turn : (out : List ℕ) (place : ℕ) {v after : List ℕ}
      → v ≡ sets out (place + 16 * i) (index_from filled (entries_from list row (n - i) i at))
      → after ≡ sets out (place + 16 * i) (four_bytes e.tag e.ty offset e.count)
      → v ≡ sets after (place + 16 * (i + 1))
      (index_from (offset + e.size) (entries_from list row (n - (i + 1)) (i + 1) (at + e.size)))
  index_turn out place inv g =
      let four = four_bytes e.tag e.ty offset e.count in
      let a = length_four e.tag e.ty offset e.count in
      let k : place + 16 * (i + 1) ≡ place + 16 * i + length four = omega arith in
      let here : record_bytes (record_of (entry_at list row i at) offset) ≡ four =
      rw (turn.record_here list row n i at filled w f l q) in
      inv
      ∙ rw (entries_step list row n i at l) (rw (index_step filled (entry_at list row i at) _)
      (rw (
        turn.stop_here list row n i at filled w f l q o,
        turn.start_here list row n i at filled w f l q o,
        turn.next list row n i at filled w f l q,
        here,
        k,
        g,
      )
      (sets_append out (place + 16 * i) four
      (index_from (offset + e.size) (entries_from list row (n - (i + 1)) (i + 1) (at + e.size))))))

  -- a run of data that is put later, from a place of the row on, and the rest of the store
  module _ (from : ℕ) (d : from ≤ at) where
    joined : take (at - from) (drop from row) ++ take e.size (drop at row) ≡ take (at + e.size - from) (drop from row)
    joined =
        let m : from + (at - from) ≡ at = omega arith in
        let k : at - from + e.size ≡ at + e.size - from = omega arith in
        rw (m, k) at (part_join row from (at - from) e.size)

    run_long : length (take (at - from) (drop from row)) ≡ at - from
    run_long = length_part row from (at - from) (omega arith)

    module _ (out : List ℕ) (to : ℕ) {v : List ℕ}
        (inv : v ≡ sets out to (take (at - from) (drop from row) ++ store_from filled (entries_from list row (n - i) i at))) where
      pub run_turn : offset - filled ≡ 0
          → v ≡ sets out to (take (at + e.size - from) (drop from row)
          ++ store_from (offset + e.size) (entries_from list row (n - (i + 1)) (i + 1) (at + e.size)))
      run_turn z =
          inv ∙ rw (turn.store_here list row n i at filled w f l q o, z)
          (rw (← joined) (rw (append_assoc (take (at - from) (drop from row)) (take e.size (drop at row))
          (store_from (offset + e.size) (entries_from list row (n - (i + 1)) (i + 1) (at + e.size))))))

      pub gap_turn : {run after : List ℕ} → run ≡ take (at - from) (drop from row)
          → after ≡ sets out to (run ++ zeros (offset - filled))
          → v ≡ sets after (to + (at - from + (offset - filled))) (take (at + e.size - at) (drop at row)
          ++ store_from (offset + e.size) (entries_from list row (n - (i + 1)) (i + 1) (at + e.size)))
      gap_turn {run} r g =
          let left = take e.size (drop at row)
          ++ store_from (offset + e.size) (entries_from list row (n - (i + 1)) (i + 1) (at + e.size)) in
          let a = ap length r ∙ run_long in
          let b = length-append run (zeros (offset - filled)) in
          let c = length-replicate {A = ℕ} (offset - filled) 0 in
          let k : to + length (run ++ zeros (offset - filled)) ≡ to + (at - from + (offset - filled)) = omega arith in
          let m : at + e.size - at ≡ e.size = omega arith in
          rw m
          (inv ∙ rw (turn.store_here list row n i at filled w f l q o, ← r)
          (rw (← append_assoc run (zeros (offset - filled)) left)
          (sets_append out to (run ++ zeros (offset - filled)) left ∙ rw (← g, k))))

    module _ (to : ℕ) {room : ℕ} (h : filled ≤ offset)
        (r : to + (at - from) + length (store_from filled (entries_from list row (n - i) i at)) ≤ room) where
      pub run_next : offset - filled ≡ 0
          → to + (at + e.size - from)
          + length (store_from (offset + e.size) (entries_from list row (n - (i + 1)) (i + 1) (at + e.size))) ≤ room
      run_next z = let b = turn.store_length list row n i at filled w f l q o in omega arith

      pub gap_next : to + (at - from + (offset - filled)) + (at + e.size - at)
          + length (store_from (offset + e.size) (entries_from list row (n - (i + 1)) (i + 1) (at + e.size))) ≤ room
      gap_next = let b = turn.store_length list row n i at filled w f l q o in omega arith

module _ (list row : List ℕ) (n i at filled : ℕ) where
  pub index_spent : (out : List ℕ) (place : ℕ) {v : List ℕ}
      → v ≡ sets out place (index_from filled (entries_from list row (n - i) i at)) → n ≤ i → out ≡ v
  index_spent out place inv l = sym (inv ∙ rw (entries_none list row n i at l, index_none filled))

  pub store_spent : (out : List ℕ) (to from : ℕ) {v run after : List ℕ}
      → v ≡ sets out to (take (at - from) (drop from row) ++ store_from filled (entries_from list row (n - i) i at)) → n ≤ i
      → run ≡ take (at - from) (drop from row) → after ≡ sets out to run → after ≡ v
  store_spent out to from {run = run} inv l r g =
      g ∙ sym (inv ∙ rw (entries_none list row n i at l, store_none filled, ← r) (rw (append-nil run)))
