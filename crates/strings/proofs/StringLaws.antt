-- Laws of `strings_from`, one for each way through a turn of the scan.
use Prim.Native.Nat.{ℕ, zero, suc, ◌+◌, ◌-◌, ◌≤◌, ◌<◌}
use mathlib.Core.Path.{◌≡◌, refl, sym, ap, ◌∙◌}
use mathlib.Core.List.{List}
use lib.ListN.{length, get_or, get_or-eq_default}
use mathlib.Core.Bool.{Bool, true, false, cond}
use lib.Dec.{eqb, leb}
use mathlib.Core.Logic.{⊎_elim}
use Rattle.be.proofs.Choice.{pick}
use native.Mathlib.Omega.{arith}
use borrow.Author.Tests.{eq-eqb, ne_eqb, eqb-true, eqb-false, le-leb, lt-leb, leb-true, leb-false}
use Rattle.std.specs.Prelude.{Option, Some, None, min, max}
use Rattle.strings.specs.Strings.{strings_from, next_zero, empty_strings}

module _ (s : List ℕ) where
  pub done : (room at count : ℕ) → count ≡ 0 → Some at ≡ strings_from s room at count
  unfolding strings_from
  done room at count h = rw h

  pub none : (room at count : ℕ) → room ≡ 0 → (count ≡ 0 → ⊥) → None ≡ strings_from s room at count
  unfolding strings_from
  none room at zero h k = absurd (k refl)
  none room at (suc count) h k = rw h

  step_zero : (room at count : ℕ) → get_or s at 0 ≡ 0 → strings_from s (suc room) at (suc count) ≡ strings_from s room (at + 1) count
  unfolding strings_from
  step_zero room at count h = rw (eq-eqb (get_or s at 0) 0 h)

  step_other : (room at count : ℕ) → (get_or s at 0 ≡ 0 → ⊥) → strings_from s (suc room) at (suc count) ≡ strings_from s room (at + 1) (suc count)
  unfolding strings_from
  step_other room at count h = rw (ne_eqb (get_or s at 0) 0 h)

  pub zero_byte : (end i left : ℕ) → i < end → (left ≡ 0 → ⊥) → get_or s i 0 ≡ 0
      → strings_from s (end - i) i left ≡ strings_from s (end - (i + 1)) (i + 1) (left - 1)
  zero_byte end i left h k z =
      let e : end - i ≡ suc (end - (i + 1)) = omega arith in
      let f : left ≡ suc (left - 1) = omega arith in
      cc (step_zero (end - (i + 1)) i (left - 1) z)

  pub other_byte : (end i left : ℕ) → i < end → (left ≡ 0 → ⊥) → (get_or s i 0 ≡ 0 → ⊥)
      → strings_from s (end - i) i left ≡ strings_from s (end - (i + 1)) (i + 1) left
  other_byte end i left h k z =
      let e : end - i ≡ suc (end - (i + 1)) = omega arith in
      let f : left ≡ suc (left - 1) = omega arith in
      cc (step_other (end - (i + 1)) i (left - 1) z)

-- the strings end in their room
pub bound : (s : List ℕ) (room at count e : ℕ) → strings_from s room at count ≡ Some e → (at ≤ e) × (e ≤ at + room)
unfolding strings_from
bound s room at zero e h = let q : at ≡ e = cc in omega arith
bound s zero at (suc count) e h = let z : ◌≡◌ {A = ℕ} 0 1 = cc in omega arith
bound s (suc room) at (suc count) e h =
    ⊎_elim (λ q. let k = bound s room (at + 1) count e q in omega arith) (λ q. let k = bound s room (at + 1) (suc count) e q in omega arith)
    (pick (eqb (get_or s at 0) 0) _ _ h)

-- the first zero byte
module _ (s : List ℕ) where
  next_here : (room at : ℕ) → get_or s at 0 ≡ 0 → next_zero s (suc room) at ≡ at
  unfolding next_zero
  next_here room at h = rw (eq-eqb (get_or s at 0) 0 h)

  next_later : (room at : ℕ) → (get_or s at 0 ≡ 0 → ⊥) → next_zero s (suc room) at ≡ next_zero s room (at + 1)
  unfolding next_zero
  next_later room at h = rw (ne_eqb (get_or s at 0) 0 h)

  next_none : (at : ℕ) → next_zero s 0 at ≡ at
  unfolding next_zero
  next_none at = refl

  -- in the shape of what is known in a turn: v is what the search began with
  module _ (stop i : ℕ) {v : ℕ} (inv : v ≡ next_zero s (stop - i) i) where
    pub next_turn : i < stop → (get_or s i 0 ≡ 0 → ⊥) → v ≡ next_zero s (stop - (i + 1)) (i + 1)
    next_turn l h = let e : stop - i ≡ suc (stop - (i + 1)) = omega arith in inv ∙ rw e (next_later _ i h)

    pub next_ends : i < stop → get_or s i 0 ≡ 0 → i ≡ v
    next_ends l h = let e : stop - i ≡ suc (stop - (i + 1)) = omega arith in sym (inv ∙ rw e (next_here _ i h))

  -- the first byte, and the rest
  pub first_here : (n at : ℕ) → get_or s at 0 ≡ 0 → at ≡ next_zero s (suc n) at
  first_here n at h = sym (next_here n at h)

  pub first_later : (n at : ℕ) {v : ℕ} → (get_or s at 0 ≡ 0 → ⊥) → v ≡ next_zero s n (at + 1) → v ≡ next_zero s (suc n) at
  first_later n at h k = k ∙ sym (next_later n at h)

  -- k bytes, then the rest
  next_in : (k room at : ℕ) → next_zero s k at < at + k → next_zero s (k + room) at ≡ next_zero s k at
  next_in zero room at l = absurd (omega (arith, next_none at))
  next_in (suc k) room at l =
      let e : suc k + room ≡ suc (k + room) = omega arith in
      rw e (go (eqb (get_or s at 0) 0) refl (next_in k room (at + 1)))
    where
      go : (b : Bool) → eqb (get_or s at 0) 0 ≡ b
          → (next_zero s k (at + 1) < at + 1 + k → next_zero s (k + room) (at + 1) ≡ next_zero s k (at + 1))
          → next_zero s (suc (k + room)) at ≡ next_zero s (suc k) at
      go true t f = next_here (k + room) at (eqb-true _ _ t) ∙ sym (next_here k at (eqb-true _ _ t))
      go false t f =
          let p = next_later k at (eqb-false _ _ t) in
          next_later (k + room) at (eqb-false _ _ t) ∙ f (omega arith) ∙ sym p

  next_behind : (k room at : ℕ) → at + k ≤ next_zero s k at → next_zero s (k + room) at ≡ next_zero s room (at + k)
  next_behind zero room at l = let e : 0 + room ≡ room = omega arith in let f : at + 0 ≡ at = omega arith in rw (e, f)
  next_behind (suc k) room at l =
      let e : suc k + room ≡ suc (k + room) = omega arith in
      let f : at + suc k ≡ at + 1 + k = omega arith in
      rw (e, f) (go (eqb (get_or s at 0) 0) refl (next_behind k room (at + 1)))
    where
      go : (b : Bool) → eqb (get_or s at 0) 0 ≡ b
          → (at + 1 + k ≤ next_zero s k (at + 1) → next_zero s (k + room) (at + 1) ≡ next_zero s room (at + 1 + k))
          → next_zero s (suc (k + room)) at ≡ next_zero s room (at + 1 + k)
      go true t f = absurd (omega (arith, next_here k at (eqb-true _ _ t)))
      go false t f =
          let p = next_later k at (eqb-false _ _ t) in
          next_later (k + room) at (eqb-false _ _ t) ∙ f (omega arith)

  -- a turn of eight bytes: v is what the search began with, z the first zero byte of the eight
  module _ (stop i : ℕ) {v z : ℕ} (inv : v ≡ next_zero s (stop - i) i) (q : z ≡ next_zero s (i + 8 - i) i)
      {wide : ℕ} (w : wide ≡ stop - 7) (l : i < wide) where
    of_eight : z ≡ next_zero s 8 i
    of_eight = let e : 8 ≡ i + 8 - i = omega arith in rw e q

    pub eight_turn : i + 8 ≤ z → v ≡ next_zero s (stop - (i + 8)) (i + 8)
    eight_turn h =
        let e : stop - i ≡ 8 + (stop - (i + 8)) = omega arith in
        let p = of_eight in
        inv ∙ rw e (next_behind 8 (stop - (i + 8)) i (omega arith))

    pub eight_ends : z < i + 8 → z ≡ v
    eight_ends h =
        let e : stop - i ≡ 8 + (stop - (i + 8)) = omega arith in
        let p = of_eight in
        sym (inv ∙ rw e (next_in 8 (stop - (i + 8)) i (omega arith)) ∙ sym p)

  pub resumed : (stop i : ℕ) {v r : ℕ} → v ≡ next_zero s (stop - i) i → r ≡ next_zero s (stop - i) i → r ≡ v
  resumed stop i inv q = q ∙ sym inv

  next_within : (room at : ℕ) → (at ≤ next_zero s room at) × (next_zero s room at ≤ at + room)
  next_within zero at = omega (arith, next_none at)
  next_within (suc room) at = go (eqb (get_or s at 0) 0) refl (next_within room (at + 1))
    where
      go : (b : Bool) → eqb (get_or s at 0) 0 ≡ b
          → (at + 1 ≤ next_zero s room (at + 1)) × (next_zero s room (at + 1) ≤ at + 1 + room)
          → (at ≤ next_zero s (suc room) at) × (next_zero s (suc room) at ≤ at + suc room)
      go true t h = omega (arith, next_here room at (eqb-true _ _ t))
      go false t h = omega (arith, next_later room at (eqb-false _ _ t))

  pub next_spent : (at stop i : ℕ) {e : ℕ} → next_zero s (stop - at) at ≡ next_zero s (stop - i) i → stop ≤ i → e ≡ max at stop
      → e ≡ next_zero s (stop - at) at
  next_spent at stop i inv l q =
      let z : stop - i ≡ 0 = omega arith in
      let g = rw z at inv in
      omega (arith, next_within (stop - at) at, next_none i)

  next_found : (room at : ℕ) → next_zero s room at < at + room → get_or s (next_zero s room at) 0 ≡ 0
  next_found zero at l = absurd (omega (arith, next_none at))
  next_found (suc room) at l = go (eqb (get_or s at 0) 0) refl (next_found room (at + 1))
    where
      go : (b : Bool) → eqb (get_or s at 0) 0 ≡ b
          → (next_zero s room (at + 1) < at + 1 + room → get_or s (next_zero s room (at + 1)) 0 ≡ 0)
          → get_or s (next_zero s (suc room) at) 0 ≡ 0
      go true t f = let e = next_here room at (eqb-true _ _ t) in rw e (eqb-true _ _ t)
      go false t f = let e = next_later room at (eqb-false _ _ t) in rw e (f (omega arith))

  -- up to the first zero byte no string ends
  next_strings : (room at end count : ℕ) → (0 < room → at + room ≤ end)
      → strings_from s (end - at) at (suc count) ≡ strings_from s (end - next_zero s room at) (next_zero s room at) (suc count)
  next_strings zero at end count l = rw (next_none at)
  next_strings (suc room) at end count l =
      let fits = l (omega arith) in
      go (eqb (get_or s at 0) 0) refl (next_strings room (at + 1) end count (λ q. omega arith))
    where
      go : (b : Bool) → eqb (get_or s at 0) 0 ≡ b
          → strings_from s (end - (at + 1)) (at + 1) (suc count)
          ≡ strings_from s (end - next_zero s room (at + 1)) (next_zero s room (at + 1)) (suc count)
          → strings_from s (end - at) at (suc count)
          ≡ strings_from s (end - next_zero s (suc room) at) (next_zero s (suc room) at) (suc count)
      go true t h = rw (next_here room at (eqb-true _ _ t))
      go false t h =
          let fits = l (omega arith) in
          let n = eqb-false _ _ t in
          rw (next_later room at n) (other_byte s end at (suc count) (omega arith) (λ q. omega arith) n ∙ h)

-- empty strings in a row
pub empties_fit : (room at count : ℕ) → count ≤ room → Some (at + count) ≡ empty_strings room at count
empties_fit room at count l = rw (le-leb count room l)

pub empties_lack : (room at count : ℕ) → room < count → None ≡ empty_strings room at count
empties_lack room at count l = rw (lt-leb count room l)

empties_step : (room at count : ℕ) → empty_strings room (at + 1) count ≡ empty_strings (suc room) at (suc count)
empties_step room at count = go (leb count room) refl
  where
    go : (b : Bool) → leb count room ≡ b → cond b (Some (at + 1 + count)) None ≡ empty_strings (suc room) at (suc count)
    go true t =
        let l = leb-true count room t in
        let e : at + 1 + count ≡ at + suc count = omega arith in
        rw (le-leb (suc count) (suc room) (omega arith), e)
    go false t = let l = leb-false count room t in rw (lt-leb (suc count) (suc room) (omega arith))

-- behind the last byte every byte reads as 0, an empty string
empties : (s : List ℕ) (room at count : ℕ) → (0 < room → length s ≤ at)
    → strings_from s room at count ≡ empty_strings room at count
unfolding strings_from
empties s room at zero h = let e : at + 0 ≡ at = omega arith in ap Some (sym e) ∙ empties_fit room at 0 (omega arith)
empties s zero at (suc count) h = empties_lack 0 at (suc count) (omega arith)
empties s (suc room) at (suc count) h =
    let past = h (omega arith) in
    step_zero s room at count (get_or-eq_default s 0 past) ∙ empties s room (at + 1) count (λ q. omega arith)
    ∙ empties_step room at count

-- in the shape of what is known in a turn: v is what the scan began with, zero the place of the first zero byte
module _ (s : List ℕ) (end stop i count turn : ℕ) {v : Option ℕ} (inv : v ≡ strings_from s (end - i) i (count - turn))
    (m : stop ≡ min end (length s)) {zero : ℕ} (z : zero ≡ next_zero s (stop - i) i) (k : turn < count) where
  at_zero : v ≡ strings_from s (end - zero) zero (count - turn)
  at_zero =
      let f : count - turn ≡ suc (count - turn - 1) = omega arith in
      cc (next_strings s (stop - i) i end (count - turn - 1) (λ q. omega arith))

  zero_there : zero < stop → get_or s zero 0 ≡ 0
  zero_there l = let w = next_within s (stop - i) i in rw z (next_found s (stop - i) i (omega arith))

  pub string_turn : zero < stop → v ≡ strings_from s (end - (zero + 1)) (zero + 1) (count - (turn + 1))
  string_turn l =
      let e : count - (turn + 1) ≡ count - turn - 1 = omega arith in
      rw e (at_zero ∙ zero_byte s end zero (count - turn) (omega arith) (λ q. omega arith) (zero_there l))

  pub ends_empty : {r : Option ℕ} → stop ≤ zero → r ≡ empty_strings (end - zero) zero (count - turn) → r ≡ v
  ends_empty l h = h ∙ sym (at_zero ∙ empties s (end - zero) zero (count - turn) (λ q. omega arith))

pub strings_done : (s : List ℕ) (room i count turn : ℕ) {v : Option ℕ} → v ≡ strings_from s room i (count - turn) → count ≤ turn → Some i ≡ v
strings_done s room i count turn inv h = done s room i (count - turn) (omega arith) ∙ sym inv

-- at least one string takes at least one byte
pub positive : (s : List ℕ) (room at count e : ℕ) → strings_from s room at count ≡ Some e → 1 ≤ count → at < e
unfolding strings_from
positive s room at zero e h l = absurd (omega arith)
positive s zero at (suc count) e h l = let z : ◌≡◌ {A = ℕ} 0 1 = cc in omega arith
positive s (suc room) at (suc count) e h l =
    ⊎_elim (λ q. let k = bound s room (at + 1) count e q in omega arith) (λ q. let k = bound s room (at + 1) (suc count) e q in omega arith)
    (pick (eqb (get_or s at 0) 0) _ _ h)

-- only the bytes up to the end matter
module _ (s : List ℕ) where
  tight_zero : (at count e : ℕ) → at + 1 ≤ e → get_or s at 0 ≡ 0 → strings_from s (e - (at + 1)) (at + 1) count ≡ Some e
      → strings_from s (e - at) at (suc count) ≡ Some e
  tight_zero at count e l z h =
      let k : suc count - 1 ≡ count = omega arith in
      zero_byte s e at (suc count) (omega arith) (λ q. omega arith) z ∙ rw k h

  tight_other : (at count e : ℕ) → at + 1 ≤ e → (get_or s at 0 ≡ 0 → ⊥) → strings_from s (e - (at + 1)) (at + 1) (suc count) ≡ Some e
      → strings_from s (e - at) at (suc count) ≡ Some e
  tight_other at count e l z h = other_byte s e at (suc count) (omega arith) (λ q. omega arith) z ∙ h

  pub tight : (room at count e : ℕ) → strings_from s room at count ≡ Some e → strings_from s (e - at) at count ≡ Some e
  unfolding strings_from
  tight room at zero e h = h
  tight zero at (suc count) e h = let z : ◌≡◌ {A = ℕ} 0 1 = cc in absurd (omega arith)
  tight (suc room) at (suc count) e h = go (eqb (get_or s at 0) 0) refl h (tight room (at + 1) count e) (tight room (at + 1) (suc count) e)
    where
      go : (b : Bool) → eqb (get_or s at 0) 0 ≡ b
          → cond b (strings_from s room (at + 1) count) (strings_from s room (at + 1) (suc count)) ≡ Some e
          → (strings_from s room (at + 1) count ≡ Some e → strings_from s (e - (at + 1)) (at + 1) count ≡ Some e)
          → (strings_from s room (at + 1) (suc count) ≡ Some e → strings_from s (e - (at + 1)) (at + 1) (suc count) ≡ Some e)
          → strings_from s (e - at) at (suc count) ≡ Some e
      go true t q f g = tight_zero at count e (bound s room (at + 1) count e q).0 (eqb-true _ _ t) (f q)
      go false t q f g = tight_other at count e (bound s room (at + 1) (suc count) e q).0 (eqb-false _ _ t) (g q)

-- where j strings in a row end, k more begin
module _ (s : List ℕ) where
  front : (room at j m : ℕ) (b : Bool) → eqb (get_or s at 0) 0 ≡ b
      → cond b (strings_from s room (at + 1) j) (strings_from s room (at + 1) (suc j)) ≡ Some m
      → strings_from s (suc room) at (suc j) ≡ Some m
  unfolding strings_from
  front room at j m b t h = rw t h

  pub split : (room at j k n e : ℕ) → n ≡ j + k → strings_from s room at n ≡ Some e
      → (m : ℕ) × (strings_from s room at j ≡ Some m) × (strings_from s (at + room - m) m k ≡ Some e)
  unfolding strings_from
  split room at zero k n e p h =
      let q : n ≡ k = omega arith in
      let r : at + room - at ≡ room = omega arith in
      (at, refl, rw r (rw q at h))
  split zero at (suc j) k n e p h =
      let q : n ≡ suc (j + k) = omega arith in
      let z : ◌≡◌ {A = ℕ} 0 1 = let h' = rw q at h in cc in
      absurd (omega arith)
  split (suc room) at (suc j) k n e p h =
      let q : n ≡ suc (n - 1) = omega arith in
      go (eqb (get_or s at 0) 0) refl (rw q at h) (split room (at + 1) j k (n - 1) e (omega arith))
      (split room (at + 1) (suc j) k (suc (n - 1)) e (omega arith))
    where
      go : (b : Bool) → eqb (get_or s at 0) 0 ≡ b
          → cond b (strings_from s room (at + 1) (n - 1)) (strings_from s room (at + 1) (suc (n - 1))) ≡ Some e
          → (strings_from s room (at + 1) (n - 1) ≡ Some e
          → (m : ℕ) × (strings_from s room (at + 1) j ≡ Some m) × (strings_from s (at + 1 + room - m) m k ≡ Some e))
          → (strings_from s room (at + 1) (suc (n - 1)) ≡ Some e
          → (m : ℕ) × (strings_from s room (at + 1) (suc j) ≡ Some m) × (strings_from s (at + 1 + room - m) m k ≡ Some e))
          → (m : ℕ) × (strings_from s (suc room) at (suc j) ≡ Some m) × (strings_from s (at + suc room - m) m k ≡ Some e)
      go true t q f g =
          let r = f q in
          let w : at + suc room - r.0 ≡ at + 1 + room - r.0 = omega arith in
          (r.0, front room at j r.0 true t r.1, rw w r.2)
      go false t q f g =
          let r = g q in
          let w : at + suc room - r.0 ≡ at + 1 + room - r.0 = omega arith in
          (r.0, front room at j r.0 false t r.1, rw w r.2)
