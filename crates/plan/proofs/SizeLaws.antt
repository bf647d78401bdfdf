-- The length of a package that is written (signature_size, header_size, written_length), which is no less than the data lent
-- for it (stores_fit); 33 and 34 for each way through room_check (over_first to fits).
use Prim.Native.Nat.{ℕ, zero, suc, ◌+◌, ◌-◌, ◌*◌, ◌/◌, ◌≤◌, ◌<◌}
use mathlib.Core.Path.{◌≡◌, ◌∙◌}
use mathlib.Core.List.{List, ◌++◌}
use lib.ListN.{length, drop, length-append, length-replicate, length-take, length-drop}
use native.Mathlib.Omega.{arith}
use borrow.Author.Tests.{le-leb, lt-leb}
use Rattle.format.specs.Verdicts.{check, refusal}
use Rattle.message_digest.specs.Md5.{digest}
use Rattle.message_digest.proofs.DigestLaws.{digest_length}
use Rattle.put.specs.Puts.{zeros}
use Rattle.lists.specs.Lists.{size_at, entry_at, entries_from, entries_of, sizes_from}
use Rattle.lists.proofs.ListLaws.{entries_total}
use Rattle.reasons.specs.Reasons.{with_own}
use Rattle.layout.specs.Layout.{data_start, data_stop, store_from, structure_bytes, signature_of, lead_bytes, gap_bytes, written}
use Rattle.layout.proofs.LeadLaws.{lead_length}
use Rattle.layout.proofs.StructureLaws.{structure_length, signature_length}
use Rattle.plan.specs.declared.Sizes.{Sizes}
use Rattle.plan.specs.Refusals.{room_check, written_of}
use Rattle.plan.specs.Sizes.{signature_store, header_store, sizes_with, sizes_of, planned}
use Rattle.std.specs.Prelude.{Ok, Err}

-- data of the sizes that a list says takes at least its own length in a store
sizes_fill : (list row : List ℕ) (n i at filled : ℕ) → at + sizes_from list n i ≡ length row
    → sizes_from list n i ≤ length (store_from filled (entries_from list row n i at))
unfolding sizes_from store_from entries_from
sizes_fill list row zero i at filled h = omega arith
sizes_fill list row (suc n) i at filled h =
    let entry = entry_at list row i at in
    let rest = store_from (data_stop filled entry) (entries_from list row n (i + 1) (at + size_at list i)) in
    let a = length-append (zeros (data_start filled entry - filled)) (entry.bytes ++ rest) in
    let b = length-take (size_at list i) (drop at row) in
    let c = length-append entry.bytes rest in
    let d = length-drop at row in
    let k = sizes_fill list row n (i + 1) (at + size_at list i) (data_stop filled entry) (omega arith) in
    omega arith

module _ (sig sigs head heads : List ℕ) where
  pub signature_size : (number : ℕ) (bytes : List ℕ) → length bytes ≡ 16
      → length (structure_bytes (with_own number bytes (entries_of sig sigs)))
      ≡ 16 + 16 * (length sig / 16 + 2) + signature_store sig sigs
  signature_size number bytes h =
      let a = entries_total sig sigs (length sig / 16) 0 0 in
      signature_length number bytes (entries_of sig sigs) h ∙ rw a

  pub header_size : length (structure_bytes (entries_of head heads)) ≡ 16 + 16 * (length head / 16) + header_store head heads
  header_size =
      let a = entries_total head heads (length head / 16) 0 0 in
      structure_length (entries_of head heads) ∙ rw a

  pub written_length : (name : List ℕ) → length (written_of name sig sigs head heads) ≡ (sizes_of sig sigs head heads).length
  unfolding written signature_of
  written_length name =
      let header = structure_bytes (entries_of head heads) in
      let signature = structure_bytes (with_own (length header) (digest header) (entries_of sig sigs)) in
      let a = signature_size (length header) (digest header) (digest_length header) in
      let b = header_size in
      let c = lead_length name in
      let end = 96 + length signature in
      let d = length-replicate {A = ℕ} ((end + 7) / 8 * 8 - end) 0 in
      let e = length-append (lead_bytes name) (signature ++ (gap_bytes end ++ header)) in
      let f = length-append signature (gap_bytes end ++ header) in
      let g = length-append (gap_bytes end) header in
      omega arith

  -- a package that is written is longer than the data lent for it
  pub stores_fit : sizes_from sig (length sig / 16) 0 ≡ length sigs → sizes_from head (length head / 16) 0 ≡ length heads
      → (length sigs ≤ (sizes_of sig sigs head heads).length) × (length heads ≤ (sizes_of sig sigs head heads).length)
  stores_fit g h =
      let a = sizes_fill sig sigs (length sig / 16) 0 0 20 (omega arith) in
      let b = sizes_fill head heads (length head / 16) 0 0 0 (omega arith) in
      (omega arith, omega arith)

  -- 33 and 34
  module _ (room : ℕ) where
    over : 65536 < (sizes_of sig sigs head heads).length → Err (refusal 33 0) ≡ planned sig sigs head heads room
    unfolding planned room_check check
    over l = rw (lt-leb (sizes_of sig sigs head heads).length 65536 l)

    pub over_first : sizes_from sig (length sig / 16) 0 ≡ length sigs → 65536 < length sigs
        → Err (refusal 33 0) ≡ planned sig sigs head heads room
    over_first h l = let k = sizes_fill sig sigs (length sig / 16) 0 0 20 (omega arith) in over (omega arith)

    pub over_second : sizes_from head (length head / 16) 0 ≡ length heads → 65536 < length heads
        → Err (refusal 33 0) ≡ planned sig sigs head heads room
    over_second h l = let k = sizes_fill head heads (length head / 16) 0 0 0 (omega arith) in over (omega arith)

    module _ {first second : ℕ} {sizes : Sizes} (f : first ≡ 20 + length (store_from 20 (entries_of sig sigs)))
        (s : second ≡ 0 + length (store_from 0 (entries_of head heads))) (z : sizes ≡ sizes_with sig head first second) where
      meets : sizes ≡ sizes_of sig sigs head heads
      meets = let k : second ≡ header_store head heads = omega arith in z ∙ rw (f, k)

      pub over_whole : 65536 < sizes.length → Err (refusal 33 0) ≡ planned sig sigs head heads room
      over_whole l = over (rw meets at l)

      pub short : sizes.length ≤ 65536 → room < sizes.length
          → Err (refusal 34 sizes.length) ≡ planned sig sigs head heads room
      unfolding planned room_check check
      short l k =
          rw (
            meets,
            le-leb (sizes_of sig sigs head heads).length 65536 (rw meets at l),
            lt-leb (sizes_of sig sigs head heads).length room (rw meets at k),
          )

      pub fits : sizes.length ≤ 65536 → sizes.length ≤ room → Ok sizes ≡ planned sig sigs head heads room
      unfolding planned room_check check
      fits l k =
          rw (
            meets,
            le-leb (sizes_of sig sigs head heads).length 65536 (rw meets at l),
            le-leb (sizes_of sig sigs head heads).length room (rw meets at k),
          )
