-- A place behind another: room, no_room, and for callers near, where the sum fits. A number behind a place: read.
use Prim.Native.Nat.{ℕ, ◌+◌, ◌-◌, ◌^◌, ◌≤◌, ◌<◌}
use mathlib.Core.Path.{◌≡◌, refl, sym, ap, ◌∙◌}
use mathlib.Core.List.{List}
use mathlib.Core.Bool.{Bool, true, false}
use lib.ListN.{length}
use lib.Dec.{leb}
use native.Mathlib.Omega.{arith}
use borrow.Author.Tests.{le-leb, lt-leb, leb-true, leb-false}
use Rattle.be.specs.Numbers.{be32_at}
use Rattle.be.proofs.ByteLaws.{be32_past}
use Rattle.places.specs.Behind.{last_place, behind}

pub no_room : (at n : ℕ) → last_place - at < n → last_place ≡ behind at n
unfolding behind
no_room at n h = rw (lt-leb (at + n) last_place (omega arith))

pub room : (at n : ℕ) → at ≤ last_place → n ≤ last_place - at → at + n ≡ behind at n
unfolding behind
room at n l h = rw (le-leb (at + n) last_place (omega arith))

pub near : (at n : ℕ) {r : ℕ} → r ≡ behind at n → at + n ≤ last_place → r ≡ at + n
near at n p h = p ∙ sym (room at n (omega arith) (omega arith))

-- where the sum does not fit, both places are behind the end
pub read : (s : List ℕ) (at n : ℕ) {place v : ℕ} → place ≡ behind at n → v ≡ be32_at s place → length s < 2 ^ 64
    → v ≡ be32_at s (at + n)
unfolding behind
read s at n {place} e p l = p ∙ go (leb (at + n) last_place) refl
  where
    go : (b : Bool) → leb (at + n) last_place ≡ b → be32_at s place ≡ be32_at s (at + n)
    go true h = ap (be32_at s) (near at n e (leb-true (at + n) last_place h))
    go false h =
        let o = leb-false (at + n) last_place h in
        let f : place ≡ last_place = e ∙ rw h in
        sym (be32_past s place (omega (arith, f))) ∙ be32_past s (at + n) (omega (arith, o))
