-- A slot is one tag's alone (only), and one of the table's (back).
use Rattle.std.proofs.Common.{ℕ, ◌+◌, ◌-◌, ◌≤◌, ◌<◌, ◌≡◌, refl, sym, ap, ◌∙◌, Bool, true, false, cond, ◌&&◌, eqb, leb, arith}
use Rattle.std.specs.Prelude.{Option, Some, None}
use borrow.Author.Tests.{eqb-true, leb-true, le-leb, lt-leb}
use Rattle.tags.specs.Tables.{slots, slot_of}

-- the tag of a slot
pub tag_of : ℕ → ℕ
tag_of k =
    cond (leb k 55) (k + 1000)
    (cond (leb k 108) (k + 1024)
    (cond (eqb k 109) 1064
    (cond (eqb k 110) 20001 (cond (eqb k 111) 20002 (cond (eqb k 112) 62 (cond (eqb k 113) 63 100))))))

low : (k : ℕ) → k ≤ 55 → tag_of k ≡ k + 1000
unfolding tag_of
low k l = rw (le-leb k 55 l)

high : (k : ℕ) → 55 < k → k ≤ 108 → tag_of k ≡ k + 1024
unfolding tag_of
high k l m = rw (lt-leb k 55 l, le-leb k 108 m)

module _ (tag k : ℕ) where
  abbrev pub Back : Type 0
  Back = (tag_of k ≡ tag) × (k < slots)

  -- one arm of the choice of a slot, and those behind it
  one : (m n : ℕ) (rest : Option ℕ) → tag_of n ≡ m → n < slots → (rest ≡ Some k → Back)
      → cond (eqb tag m) (Some n) rest ≡ Some k → Back
  one m n rest t l next h = go (eqb tag m) refl h
    where
      go : (b : Bool) → eqb tag m ≡ b → cond b (Some n) rest ≡ Some k → Back
      go true q h =
          let same : n ≡ k = cc in
          (ap tag_of (sym same) ∙ t ∙ sym (eqb-true tag m q), omega arith)
      go false q h = next h

  run : (first last less : ℕ) (rest : Option ℕ) → (first ≤ tag → tag ≤ last → (tag_of (tag - less) ≡ tag) × (tag - less < slots))
      → (rest ≡ Some k → Back) → cond (leb first tag && leb tag last) (Some (tag - less)) rest ≡ Some k → Back
  run first last less rest t next h = go (leb first tag) (leb tag last) refl refl h
    where
      go : (a b : Bool) → leb first tag ≡ a → leb tag last ≡ b → cond (a && b) (Some (tag - less)) rest ≡ Some k → Back
      go true true p q h =
          let same : tag - less ≡ k = cc in
          let found = t (leb-true first tag p) (leb-true tag last q) in
          (ap tag_of (sym same) ∙ found.0, omega arith)
      go true false p q h = next h
      go false b p q h = next h

  nothing : None ≡ Some k → Back
  nothing h = let z : ◌≡◌ {A = ℕ} 0 1 = cc in absurd (omega arith)

  pub back : slot_of tag ≡ Some k → Back
  unfolding slot_of tag_of
  back =
      run 1000 1055 1000 _ (λ p q. (low (tag - 1000) (omega arith) ∙ omega arith, omega arith))
      (run 1080 1132 1024 _ (λ p q. (high (tag - 1024) (omega arith) (omega arith) ∙ omega arith, omega arith))
      (one 1064 109 _ refl (omega arith)
      (one 20001 110 _ refl (omega arith)
      (one 20002 111 _ refl (omega arith)
      (one 62 112 _ refl (omega arith)
      (one 63 113 _ refl (omega arith)
      (one 100 114 None refl (omega arith) nothing)))))))

pub only : (a b k : ℕ) → slot_of a ≡ Some k → slot_of b ≡ Some k → a ≡ b
only a b k p q = sym (back a k p).0 ∙ (back b k q).0
