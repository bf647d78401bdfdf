-- A structure from its parts (structure_put), the writer's own entries (own_index_put, own_store_put), and the
-- signature with these first (signature_put).
use Prim.Native.Nat.{ℕ, suc, ◌+◌, ◌*◌}
use mathlib.Core.Path.{◌≡◌, sym}
use mathlib.Core.List.{List, ◌++◌}
use lib.ListN.{length, length-append}
use lib.Seq.{sets}
use native.Mathlib.Omega.{arith}
use Rattle.put.specs.Puts.{bytes_of, four_bytes}
use Rattle.put.proofs.PutLaws.{behind, length_bytes_lem, length_four}
use Rattle.lists.specs.Lists.{entries_from}
use Rattle.lists.proofs.ListLaws.{entries_total}
use Rattle.reasons.specs.Reasons.{with_own}
use Rattle.layout.specs.Layout.{own_records, index_from, store_from, structure_bytes}
use Rattle.layout.proofs.StructureLaws.{index_length, own_index, own_store}

pub structure_put : (out : List ℕ) (place : ℕ) (list row : List ℕ) (n size : ℕ) {o₁ o₂ o₃ : List ℕ}
    → size ≡ length (store_from 0 (entries_from list row n 0 0)) → o₁ ≡ sets out place (four_bytes 0x8EADE801 0 n size)
    → o₂ ≡ sets o₁ (place + 16) (index_from 0 (entries_from list row n 0 0))
    → o₃ ≡ sets o₂ (place + 16 + 16 * n) (store_from 0 (entries_from list row n 0 0))
    → o₃ ≡ sets out place (structure_bytes (entries_from list row n 0 0))
unfolding structure_bytes
structure_put out place list row n size {o₁} z p q r =
    let entries = entries_from list row n 0 0 in
    let a = entries_total list row n 0 0 in
    let b = index_length 0 entries in
    let d = sym z in
    let f = length_four 0x8EADE801 0 n size in
    rw (a, d)
    (behind out place (four_bytes 0x8EADE801 0 n size) (index_from 0 entries ++ store_from 0 entries) p
    (behind o₁ (place + 16) (index_from 0 entries) (store_from 0 entries) q r (omega arith)) (omega arith))

-- the writer's own entries
pub own_index_put : (out : List ℕ) (place : ℕ) {o₁ o₂ : List ℕ} → o₁ ≡ sets out place (four_bytes 1000 4 0 1)
    → o₂ ≡ sets o₁ (place + 16) (four_bytes 1004 7 4 16) → o₂ ≡ sets out place own_records
own_index_put out place p q =
    let k = length_four 1000 4 0 1 in
    behind out place (four_bytes 1000 4 0 1) (four_bytes 1004 7 4 16) p q (omega arith)

pub own_store_put : (out : List ℕ) (place number : ℕ) (digest : List ℕ) {o₁ o₂ : List ℕ} → o₁ ≡ sets out place (bytes_of number)
    → o₂ ≡ sets o₁ (place + 4) digest → o₂ ≡ sets out place (bytes_of number ++ digest)
own_store_put out place number digest p q =
    let k = length_bytes_lem number in
    behind out place (bytes_of number) digest p q (omega arith)

pub signature_put : (out : List ℕ) (place : ℕ) (list row : List ℕ) (n size number : ℕ) (digest : List ℕ)
    {o₁ o₂ o₃ o₄ o₅ : List ℕ} → length digest ≡ 16
    → size ≡ 20 + length (store_from 20 (entries_from list row n 0 0)) → o₁ ≡ sets out place (four_bytes 0x8EADE801 0 (n + 2) size)
    → o₂ ≡ sets o₁ (place + 16) own_records
    → o₃ ≡ sets o₂ (place + 16 + 32) (index_from 20 (entries_from list row n 0 0))
    → o₄ ≡ sets o₃ (place + 16 + 32 + 16 * n) (bytes_of number ++ digest)
    → o₅ ≡ sets o₄ (place + 16 + 32 + 16 * n + 20) (store_from 20 (entries_from list row n 0 0))
    → o₅ ≡ sets out place (structure_bytes (with_own number digest (entries_from list row n 0 0)))
unfolding structure_bytes
signature_put out place list row n size number digest {o₁} {o₂} {o₃} own z p q r s t =
    let entries = entries_from list row n 0 0 in
    let data' = bytes_of number ++ digest in
    let a = entries_total list row n 0 0 in
    let a' : suc (suc (length entries)) ≡ n + 2 = omega arith in
    let b = index_length 20 entries in
    let g = length_bytes_lem number in
    let h = length-append (bytes_of number) digest in
    let i = length-append data' (store_from 20 entries) in
    let d : length (data' ++ store_from 20 entries) ≡ size = omega arith in
    let f = length_four 0x8EADE801 0 (n + 2) size in
    let k = length_four 1000 4 0 1 in
    let l = length_four 1004 7 4 16 in
    let j = length-append (four_bytes 1000 4 0 1) (four_bytes 1004 7 4 16) in
    let m = length-append own_records (index_from 20 entries) in
    rw (own_index number digest entries own, own_store number digest entries own, a', d)
    (behind out place (four_bytes 0x8EADE801 0 (n + 2) size)
    ((own_records ++ index_from 20 entries) ++ (data' ++ store_from 20 entries)) p
    (behind o₁ (place + 16) (own_records ++ index_from 20 entries) (data' ++ store_from 20 entries)
    (behind o₁ (place + 16) own_records (index_from 20 entries) q r (omega arith))
    (behind o₃ (place + 16 + 32 + 16 * n) data' (store_from 20 entries) s t (omega arith)) (omega arith)) (omega arith))
