-- One string of a row: where it lies (string_at), its bytes (single_ends, single_text), and that it ends where some byte is
-- zero (single_among).
use Prim.Native.Nat.{ℕ, zero, suc, ◌+◌, ◌-◌, ◌≤◌, ◌<◌}
use mathlib.Core.Path.{◌≡◌, refl}
use mathlib.Core.Logic.{◌↔◌}
use mathlib.Core.List.{List}
use mathlib.Core.Bool.{Bool, true, false, cond}
use lib.Dec.{eqb}
use lib.ListN.{get_or}
use native.Mathlib.Omega.{arith}
use borrow.Author.Tests.{eqb-true, eqb-false}
use Rattle.std.specs.Prelude.{Some}
use Rattle.strings.specs.Strings.{strings_from, is_ended}
use Rattle.strings.proofs.StringLaws.{split}

-- string k of a row: where it starts and where it ends
pub string_at : (s : List ℕ) (room at k n e : ℕ) → k < n → strings_from s room at n ≡ Some e
    → (m : ℕ) × (m' : ℕ) × (strings_from s room at k ≡ Some m) × (strings_from s room at (k + 1) ≡ Some m')
    × (strings_from s (at + room - m) m 1 ≡ Some m')
string_at s room at k n e l h =
    let later = split s room at (k + 1) (n - (k + 1)) n e (omega arith) h in
    let first = split s room at k 1 (k + 1) later.0 refl later.1 in
    (first.0, later.0, first.1, later.1, first.2)

-- a single string ends with its zero byte, the only one
module _ (s : List ℕ) where
  pub single_ends : (room at e : ℕ) → strings_from s room at 1 ≡ Some e → get_or s (e - 1) 0 ≡ 0
  unfolding strings_from
  single_ends zero at e h = let z : ◌≡◌ {A = ℕ} 0 1 = cc in absurd (omega arith)
  single_ends (suc room) at e h = go (eqb (get_or s at 0) 0) refl h (single_ends room (at + 1) e)
    where
      go : (b : Bool) → eqb (get_or s at 0) 0 ≡ b
          → cond b (strings_from s room (at + 1) 0) (strings_from s room (at + 1) 1) ≡ Some e
          → (strings_from s room (at + 1) 1 ≡ Some e → get_or s (e - 1) 0 ≡ 0) → get_or s (e - 1) 0 ≡ 0
      go true t q f = let w : at + 1 ≡ e = cc in let v : e - 1 ≡ at = omega arith in rw v (eqb-true _ _ t)
      go false t q f = f q

  pub single_text : (room at e : ℕ) → strings_from s room at 1 ≡ Some e
      → (i : ℕ) → at + i + 1 < e → get_or s (at + i) 0 ≡ 0 → ⊥
  unfolding strings_from
  single_text zero at e h i l q = let z : ◌≡◌ {A = ℕ} 0 1 = cc in absurd (omega arith)
  single_text (suc room) at e h i l q = go (eqb (get_or s at 0) 0) refl h i l q (single_text room (at + 1) e)
    where
      go : (b : Bool) → eqb (get_or s at 0) 0 ≡ b
          → cond b (strings_from s room (at + 1) 0) (strings_from s room (at + 1) 1) ≡ Some e
          → (i : ℕ) → at + i + 1 < e → get_or s (at + i) 0 ≡ 0
          → (strings_from s room (at + 1) 1 ≡ Some e → (i : ℕ) → at + 1 + i + 1 < e → get_or s (at + 1 + i) 0 ≡ 0 → ⊥) → ⊥
      go true t g i l q f = let w : at + 1 ≡ e = cc in omega arith
      go false t g zero l q f = let v : at + 0 ≡ at = omega arith in eqb-false _ _ t (rw v at q)
      go false t g (suc i) l q f = let v : at + suc i ≡ at + 1 + i = omega arith in f g i (omega arith) (rw v at q)

  -- a single string ends in its room where one of the bytes there is zero
  pub single_among : (room at : ℕ)
      → (is_ended (strings_from s room at 1) ≡ true) ↔ ((i : ℕ) × (at ≤ i) × (i < at + room) × (get_or s i 0 ≡ 0))
  unfolding strings_from
  single_among zero at = (
    λ h. let z : ◌≡◌ {A = ℕ} 0 1 = cc in absurd (omega arith),
    λ h. let l = h.1 in let m = h.2 in absurd (omega arith),
  )
  single_among (suc room) at = go (eqb (get_or s at 0) 0) refl (single_among room (at + 1))
    where
      go : (b : Bool) → eqb (get_or s at 0) 0 ≡ b
          → (is_ended (strings_from s room (at + 1) 1) ≡ true)
          ↔ ((i : ℕ) × (at + 1 ≤ i) × (i < at + 1 + room) × (get_or s i 0 ≡ 0))
          → (is_ended (cond b (strings_from s room (at + 1) 0) (strings_from s room (at + 1) 1)) ≡ true)
          ↔ ((i : ℕ) × (at ≤ i) × (i < at + suc room) × (get_or s i 0 ≡ 0))
      go true t f = (λ h. (at, omega arith, omega arith, eqb-true _ _ t), λ h. refl)
      go false t f = (
        λ h. let r = f.0 h in (r.0, omega arith, omega arith, r.3),
        λ h. let k : h.0 ≡ at → ⊥ = λ e. eqb-false _ _ t (rw e at h.3) in
            f.1 (h.0, omega arith, omega arith, h.3),
      )
