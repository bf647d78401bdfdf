-- Laws of `tag_among`: a tag by its last byte (differs, joined), four records (low_first .. low_last, four_first ..
-- four_last, none_of_4, no_tag), a turn of the loops over them (turn, ends, spent; turn_4, turn_low_4, ends_4, last_4).
use Prim.Native.Nat.{ℕ, zero, suc, ◌+◌, ◌-◌, ◌*◌, ◌%◌, ◌≤◌, ◌<◌}
use mathlib.Core.Path.{◌≡◌, refl, sym, ap, ◌∙◌}
use mathlib.Core.List.{List}
use mathlib.Core.Bool.{Bool, true, false, ◌||◌, or-true, or-false, or_assoc}
use lib.ListN.{get_or, drop}
use lib.Dec.{eqb}
use native.Mathlib.Omega.{arith}
use native.Mathlib.Nat.{add-zero}
use borrow.Author.Tests.{eq-eqb, ne_eqb, eqb-false}
use Rattle.be.specs.Numbers.{be32_at}
use Rattle.be.proofs.ByteLaws.{be32_drop}
use Rattle.among.specs.Among.{low_among, tag_among}

low_byte : (s : List ℕ) (at tag : ℕ) → be32_at s at ≡ tag → get_or s (at + 3) 0 < 256 → get_or s (at + 3) 0 ≡ tag % 256
unfolding be32_at
low_byte s at tag q b = omega arith

-- the last byte of a tag decides where it differs
pub differs : (s : List ℕ) (at tag : ℕ) {low : ℕ} → low ≡ tag % 256 → get_or s (at + 3) 0 < 256
    → (get_or s (at + 3) 0 ≡ low → ⊥) → false ≡ eqb (be32_at s at) tag
differs s at tag m b h = sym (ne_eqb (be32_at s at) tag (λ q. h (low_byte s at tag q b ∙ sym m)))

pub joined : (s : List ℕ) (at tag : ℕ) {r : ℕ}
    → r ≡ get_or s at 0 * 16777216 + get_or s (at + 1) 0 * 65536 + get_or s (at + 2) 0 * 256 + get_or s (at + 3) 0
    → eqb r tag ≡ eqb (be32_at s at) tag
unfolding be32_at
joined s at tag p = rw p

step : (s : List ℕ) (tag k : ℕ) → tag_among s (suc k) tag ≡ (eqb (be32_at s (16 * k)) tag || tag_among s k tag)
unfolding tag_among
step s tag k = refl

among_4 : (s : List ℕ) (at tag : ℕ) → tag_among (drop at s) 4 tag
    ≡ (eqb (be32_at s (at + 48)) tag || (eqb (be32_at s (at + 32)) tag
    || (eqb (be32_at s (at + 16)) tag || (eqb (be32_at s (at + 0)) tag || false))))
unfolding tag_among
among_4 s at tag = rw (be32_drop s at 48, be32_drop s at 32, be32_drop s at 16, be32_drop s at 0)

-- n records from record k on, and those before it
back : (s : List ℕ) (tag k n : ℕ) → tag_among s (k + n) tag ≡ (tag_among (drop (16 * k) s) n tag || tag_among s k tag)
unfolding tag_among
back s tag k zero = rw add-zero
back s tag k (suc n) =
    let j : k + suc n ≡ suc (k + n) = omega arith in
    let at : 16 * (k + n) ≡ 16 * k + 16 * n = omega arith in
    ap (λ (m : ℕ). tag_among s m tag) j ∙ step s tag (k + n)
    ∙ rw (at, ← be32_drop s (16 * k) (16 * n), back s tag k n)
    (sym (or_assoc (eqb (be32_at (drop (16 * k) s) (16 * n)) tag) (tag_among (drop (16 * k) s) n tag) (tag_among s k tag)))

-- the four last bytes, for each way through the tests of them
module _ (s : List ℕ) (at low : ℕ) where
  pub low_first : get_or s (at + 3) 0 ≡ low → true ≡ low_among s at low
  unfolding low_among
  low_first h = rw (eq-eqb (get_or s (at + 3) 0) low h)

  module _ (h : get_or s (at + 3) 0 ≡ low → ⊥) where
    pub low_second : get_or s (at + 19) 0 ≡ low → true ≡ low_among s at low
    unfolding low_among
    low_second k = rw (ne_eqb (get_or s (at + 3) 0) low h, eq-eqb (get_or s (at + 19) 0) low k)

    module _ (k : get_or s (at + 19) 0 ≡ low → ⊥) where
      pub low_third : get_or s (at + 35) 0 ≡ low → true ≡ low_among s at low
      unfolding low_among
      low_third m =
          rw (ne_eqb (get_or s (at + 3) 0) low h, ne_eqb (get_or s (at + 19) 0) low k, eq-eqb (get_or s (at + 35) 0) low m)

      pub low_last : (get_or s (at + 35) 0 ≡ low → ⊥) → eqb (get_or s (at + 51) 0) low ≡ low_among s at low
      unfolding low_among
      low_last m =
          rw (ne_eqb (get_or s (at + 3) 0) low h, ne_eqb (get_or s (at + 19) 0) low k, ne_eqb (get_or s (at + 35) 0) low m)

-- none of four
or_parts : (a b c d : Bool) → (a || (b || (c || d))) ≡ false → (a ≡ false) × ((b ≡ false) × ((c ≡ false) × (d ≡ false)))
or_parts true b c d h = let z : ◌≡◌ {A = ℕ} 0 1 = cc in absurd (omega arith)
or_parts false true c d h = let z : ◌≡◌ {A = ℕ} 0 1 = cc in absurd (omega arith)
or_parts false false true d h = let z : ◌≡◌ {A = ℕ} 0 1 = cc in absurd (omega arith)
or_parts false false false true h = let z : ◌≡◌ {A = ℕ} 0 1 = cc in absurd (omega arith)
or_parts false false false false h = (refl, (refl, (refl, refl)))

pub none_of_4 : (s : List ℕ) (at tag : ℕ) → tag_among (drop at s) 4 tag ≡ false
    → (eqb (be32_at s (at + 48)) tag ≡ false) × ((eqb (be32_at s (at + 32)) tag ≡ false)
    × ((eqb (be32_at s (at + 16)) tag ≡ false) × (eqb (be32_at s (at + 0)) tag ≡ false)))
none_of_4 s at tag h =
    let last = eqb (be32_at s (at + 0)) tag in
    let q =
    or_parts (eqb (be32_at s (at + 48)) tag) (eqb (be32_at s (at + 32)) tag) (eqb (be32_at s (at + 16)) tag) (last || false)
    (sym (among_4 s at tag) ∙ h)
    in
    (q.0, (q.1.0, (q.1.1.0, sym (or-false last) ∙ q.1.1.1)))

-- the four tests, for each way through them
module _ (s : List ℕ) (at tag : ℕ) {a : Bool} (p : a ≡ eqb (be32_at s (at + 48)) tag) where
  pub four_first : a ≡ true → true ≡ tag_among (drop at s) 4 tag
  four_first h = sym (among_4 s at tag ∙ rw (← p, h))

  module _ {b : Bool} (q : b ≡ eqb (be32_at s (at + 32)) tag) (h : a ≡ false) where
    pub four_second : b ≡ true → true ≡ tag_among (drop at s) 4 tag
    four_second k = sym (among_4 s at tag ∙ rw (← p, ← q, h, k))

    module _ {c : Bool} (r : c ≡ eqb (be32_at s (at + 16)) tag) (k : b ≡ false) where
      pub four_third : c ≡ true → true ≡ tag_among (drop at s) 4 tag
      four_third m = sym (among_4 s at tag ∙ rw (← p, ← q, ← r, h, k, m))

      pub four_last : {d : Bool} → d ≡ eqb (be32_at s at) tag → c ≡ false → d ≡ tag_among (drop at s) 4 tag
      four_last {d} w m = sym (among_4 s at tag ∙ rw (← p, ← q, ← r, h, k, m, add-zero, ← w) (or-false d))

-- where none of the four has the last byte, none has the tag
pub no_tag : (s : List ℕ) (at tag low : ℕ) → low ≡ tag % 256 → ((n : ℕ) → get_or s n 0 < 256) → low_among s at low ≡ false
    → tag_among (drop at s) 4 tag ≡ false
unfolding low_among
no_tag s at tag low m b h =
    let q =
    or_parts (eqb (get_or s (at + 3) 0) low) (eqb (get_or s (at + 19) 0) low) (eqb (get_or s (at + 35) 0) low)
    (eqb (get_or s (at + 51) 0) low) h
    in
    among_4 s at tag
    ∙ rw (other 48 q.1.1.1, other 32 q.1.1.0, other 16 q.1.0, other 0 q.0)
  where
    other : (n : ℕ) → eqb (get_or s (at + (n + 3)) 0) low ≡ false → eqb (be32_at s (at + n)) tag ≡ false
    other n e =
        let z : at + (n + 3) ≡ at + n + 3 = omega arith in
        sym (differs s (at + n) tag m (b (at + n + 3)) (λ r. eqb-false (get_or s (at + (n + 3)) 0) low e (rw z r)))

-- what holds of a part of the records between two that agree
between : (a b v m : Bool) → v ≡ (a || m) → m ≡ (b || v) → m ≡ v
between a true v m p q = q ∙ sym (p ∙ rw q (or-true a))
between a false v m p q = q

-- one of the first k records, in the shape of what is known in a turn: v is what the search began with, r what was read
module _ (s : List ℕ) (tag k : ℕ) {v : Bool} (inv : v ≡ tag_among s k tag) where
  module _ {r : ℕ} (e : r ≡ be32_at s (16 * (k - 1))) (l : 0 < k) where
    read : v ≡ (eqb r tag || tag_among s (k - 1) tag)
    read =
        let j : k ≡ suc (k - 1) = omega arith in
        inv ∙ ap (λ (n : ℕ). tag_among s n tag) j ∙ step s tag (k - 1) ∙ rw e

    pub turn : (r ≡ tag → ⊥) → v ≡ tag_among s (k - 1) tag
    turn h = read ∙ rw (ne_eqb r tag h)

    pub ends : r ≡ tag → true ≡ v
    ends h = sym (read ∙ rw (eq-eqb r tag h))

  -- whether one of the four before k has it
  module _ {r : Bool} (p : r ≡ tag_among (drop (16 * (k - 4)) s) 4 tag) (l : 4 ≤ k) where
    found : v ≡ (r || tag_among s (k - 4) tag)
    found =
        let j : k ≡ k - 4 + 4 = omega arith in
        inv ∙ ap (λ (n : ℕ). tag_among s n tag) j ∙ back s tag (k - 4) 4 ∙ rw p

    pub turn_4 : r ≡ false → v ≡ tag_among s (k - 4) tag
    turn_4 h = found ∙ rw h

    pub ends_4 : r ≡ true → true ≡ v
    ends_4 h = sym (found ∙ rw h)

  -- none of the four before k has the last byte
  pub turn_low_4 : {low : ℕ} {r : Bool} → low ≡ tag % 256 → ((n : ℕ) → get_or s n 0 < 256)
      → r ≡ low_among s (16 * (k - 4)) low → r ≡ false → 4 ≤ k → v ≡ tag_among s (k - 4) tag
  turn_low_4 {low} m b p h l = turn_4 refl l (no_tag s (16 * (k - 4)) tag low m b (sym p ∙ h))

  pub spent : k ≤ 0 → false ≡ v
  unfolding tag_among
  spent l = let j : k ≡ 0 = omega arith in sym (rw j at inv)

-- fewer than four are left: the first four decide
pub last_4 : (s : List ℕ) (tag n k : ℕ) {r : Bool} → tag_among s n tag ≡ tag_among s k tag → k < 4 → 4 ≤ n
    → r ≡ tag_among (drop 0 s) 4 tag → r ≡ tag_among s n tag
last_4 s tag n k inv l h p =
    let j : n ≡ 4 + (n - 4) = omega arith in
    let g : 4 ≡ k + (4 - k) = omega arith in
    let more = ap (λ (m : ℕ). tag_among s m tag) j ∙ back s tag 4 (n - 4) in
    let fewer =
    ap (λ (m : ℕ). tag_among s m tag) g ∙ back s tag k (4 - k)
    ∙ ap (λ (b : Bool). tag_among (drop (16 * k) s) (4 - k) tag || b) (sym inv)
    in
    p ∙ between (tag_among (drop 64 s) (n - 4) tag) (tag_among (drop (16 * k) s) (4 - k) tag) _ _ more fewer
