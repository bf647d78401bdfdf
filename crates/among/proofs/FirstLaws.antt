-- Laws of `first_from`: it says of each number in turn whether the test holds (decides, found, next, next_4), and where the
-- search ends (begun, stops, spent); what it finds (behind, holds); tests that agree find the same (alike).
use Prim.Native.Nat.{ℕ, zero, suc, ◌+◌, ◌-◌, ◌≤◌, ◌<◌}
use mathlib.Core.Path.{◌≡◌, refl, sym, ap, ◌∙◌}
use mathlib.Core.Bool.{Bool, true, false, cond}
use lib.Dec.{eqb, leb}
use Rattle.std.specs.Prelude.{max}
use native.Mathlib.Omega.{arith}
use borrow.Author.Tests.{eq-eqb, ne_eqb, leb-true, leb-false}
use Rattle.among.specs.Among.{first_from}

module _ (test : ℕ → Bool) where
  step : (n i : ℕ) → first_from test (suc n) i ≡ cond (test i) i (first_from test n (i + 1))
  unfolding first_from
  step n i = refl

  pub behind : (n i : ℕ) → i ≤ first_from test n i
  unfolding first_from
  behind zero i = omega arith
  behind (suc n) i = go (test i) (behind n (i + 1))
    where
      go : (b : Bool) → i + 1 ≤ first_from test n (i + 1) → i ≤ cond b i (first_from test n (i + 1))
      go true l = omega arith
      go false l = omega arith

  -- in the shape of what is known in a turn of a walk: first is the number that was found, n - i are left
  module _ (n i : ℕ) {first : ℕ} (l : i < n) (inv : first ≡ first_from test (n - i) i) where
    turned : (b : Bool) → test i ≡ b → first ≡ cond b i (first_from test (n - (i + 1)) (i + 1))
    turned b h =
        let k : n - i ≡ suc (n - (i + 1)) = omega arith in
        inv ∙ ap (λ (m : ℕ). first_from test m i) k ∙ step (n - (i + 1)) i ∙ rw h

    pub decides : eqb i first ≡ test i
    decides = go (test i) refl
      where
        go : (b : Bool) → test i ≡ b → eqb i first ≡ test i
        go true h = eq-eqb i first (sym (turned true h)) ∙ sym h
        go false h =
            let t = turned false h in
            let m = behind (n - (i + 1)) (i + 1) in
            ne_eqb i first (λ q. omega arith) ∙ sym h

    pub next : test i ≡ false → first ≡ first_from test (n - (i + 1)) (i + 1)
    next h = turned false h

    pub found : test i ≡ true → i ≡ first
    found h = sym (turned true h)

  -- of what is found the test holds
  pub holds : (n i : ℕ) → first_from test n i < i + n → test (first_from test n i) ≡ true
  unfolding first_from
  holds zero i l = absurd (omega arith)
  holds (suc n) i l = go (test i) refl (holds n (i + 1)) l
    where
      go : (b : Bool) → test i ≡ b → (first_from test n (i + 1) < i + 1 + n → test (first_from test n (i + 1)) ≡ true)
          → cond b i (first_from test n (i + 1)) < i + suc n → test (cond b i (first_from test n (i + 1))) ≡ true
      go true h more m = h
      go false h more m = more (omega arith)

  -- of none of four in a row
  pub next_4 : (n i : ℕ) {first : ℕ} → 4 ≤ n - i → first ≡ first_from test (n - i) i → test i ≡ false → test (i + 1) ≡ false
      → test (i + 2) ≡ false → test (i + 3) ≡ false → first ≡ first_from test (n - (i + 4)) (i + 4)
  next_4 n i l inv a b c d =
      let two : i + 1 + 1 ≡ i + 2 = omega arith in
      let three : i + 2 + 1 ≡ i + 3 = omega arith in
      let four : i + 3 + 1 ≡ i + 4 = omega arith in
      let after1 = next n i (omega arith) inv a in
      let after2 = rw two at (next n (i + 1) (omega arith) after1 b) in
      let after3 = rw three at (next n (i + 2) (omega arith) after2 c) in
      rw four at (next n (i + 3) (omega arith) after3 d)

  pub begun : (n : ℕ) {first : ℕ} → first ≡ first_from test n 0 → first ≡ first_from test (n - 0) 0
  begun n inv = let k : n - 0 ≡ n = omega arith in rw k inv

  pub stops : (n i : ℕ) {first : ℕ} → first ≡ first_from test (n - i) i → n ≤ i → i ≡ first
  unfolding first_from
  stops n i inv h = let k : n - i ≡ 0 = omega arith in sym (inv ∙ ap (λ (m : ℕ). first_from test m i) k)

  -- a search from number i0 on that ends at number i, at n or behind
  pub past : (n i0 i : ℕ) → first_from test (n - i0) i0 ≡ first_from test (n - i) i → n ≤ i → (i0 ≤ n → i ≤ n)
      → max i0 n ≡ first_from test (n - i0) i0
  past n i0 i inv h l = go (leb i0 n) refl
    where
      go : (b : Bool) → leb i0 n ≡ b → max i0 n ≡ first_from test (n - i0) i0
      go true t =
          let a = leb-true i0 n t in
          let e : max i0 n ≡ i = let m = l a in omega arith in
          e ∙ stops n i inv h
      go false t =
          let a = leb-false i0 n t in
          let e : max i0 n ≡ i0 = omega arith in
          e ∙ stops n i0 refl (omega arith)

  pub spent : (n i : ℕ) {first : ℕ} → first ≡ first_from test (n - i) i → i ≤ n → n ≤ i → n ≡ first
  spent n i inv l h = let e : n ≡ i = omega arith in e ∙ stops n i inv h

-- tests that agree find the same
pub alike : (a b : ℕ → Bool) → ((i : ℕ) → a i ≡ b i) → (n i : ℕ) → first_from a n i ≡ first_from b n i
unfolding first_from
alike a b h zero i = refl
alike a b h (suc n) i = rw (h i, alike a b h n (i + 1))
