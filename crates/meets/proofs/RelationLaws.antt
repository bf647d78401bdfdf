-- A text meets a requirement exactly when a flagged relation holds or none is flagged (by_relation, by_flags); what yes and no
-- say (is_yes, is_no, not_yes).
use Prim.Native.Nat.{ℕ, ◌/◌, ◌%◌}
use mathlib.Core.Path.{◌≡◌, refl, ap, ◌∙◌}
use mathlib.Core.Logic.{◌⊎◌, inl, inr}
use mathlib.Core.Bool.{Bool, true, false, cond, ◌||◌}
use native.Mathlib.Omega.{arith}
use borrow.Author.Tests.{eq-eqb, eqb-true, eqb-false}
use Rattle.std.specs.declared.cmp.Ordering.{Ordering}
use Rattle.std.specs.declared.cmp.Ordering.TheVariants as order
use Rattle.meets.specs.Meets.{is_set, is_flagged, meets_by, yes_or_no}
use Rattle.meets.specs.Theorems.{Less, Greater, Equal}
use Rattle.std.specs.Prelude.{Ok}

-- a flag and its bit
set_bit : (flags flag : ℕ) → is_set flags flag ≡ true → flags / flag % 2 ≡ 1
unfolding is_set
set_bit flags flag h = eqb-true _ _ h

bit_set : (flags flag : ℕ) → flags / flag % 2 ≡ 1 → is_set flags flag ≡ true
unfolding is_set
bit_set flags flag h = eq-eqb _ _ h

-- a flagged relation, or none
abbrev pub FlaggedOrNone : ℕ → Ordering → Type 0
FlaggedOrNone flags o =
    (Less flags × (o ≡ order.Less)) ⊎ ((Greater flags × (o ≡ order.Greater))
    ⊎ ((Equal flags × (o ≡ order.Equal)) ⊎ ((Less flags → ⊥) × (Greater flags → ⊥) × (Equal flags → ⊥))))

unset : (flags flag : ℕ) → is_set flags flag ≡ false → flags / flag % 2 ≡ 1 → ⊥
unfolding is_set
unset flags flag h e = eqb-false _ _ h e

module _ (flags : ℕ) where
  relation : (o : Ordering) → is_flagged flags o ≡ true → FlaggedOrNone flags o
  relation order.Less h = inl (set_bit flags 2 h, refl)
  relation order.Equal h = inr (inr (inl (set_bit flags 8 h, refl)))
  relation order.Greater h = inr (inl (set_bit flags 4 h, refl))

  pub by_relation : (o : Ordering) → meets_by flags o ≡ true → FlaggedOrNone flags o
  unfolding meets_by
  by_relation o h = go (is_set flags 2) (is_set flags 4) (is_set flags 8) refl refl refl h
    where
      go : (l g e : Bool) → is_set flags 2 ≡ l → is_set flags 4 ≡ g → is_set flags 8 ≡ e
          → cond (l || (g || e)) (is_flagged flags o) true ≡ true → FlaggedOrNone flags o
      go true g e p q r h = relation o h
      go false true e p q r h = relation o h
      go false false true p q r h = relation o h
      go false false false p q r h = inr (inr (inr (unset flags 2 p, unset flags 4 q, unset flags 8 r)))

  flagged_by : (o : Ordering) (b : Bool) → is_flagged flags o ≡ true → cond b (is_flagged flags o) true ≡ true
  flagged_by o true h = h
  flagged_by o false h = refl

  none_by : (Less flags → ⊥) → (Greater flags → ⊥) → (Equal flags → ⊥)
      → (is_set flags 2 || (is_set flags 4 || is_set flags 8)) ≡ false
  none_by l g e = go (is_set flags 2) (is_set flags 4) (is_set flags 8) refl refl refl
    where
      go : (p q r : Bool) → is_set flags 2 ≡ p → is_set flags 4 ≡ q → is_set flags 8 ≡ r → (p || (q || r)) ≡ false
      go true q r a b c = absurd (l (set_bit flags 2 a))
      go false true r a b c = absurd (g (set_bit flags 4 b))
      go false false true a b c = absurd (e (set_bit flags 8 c))
      go false false false a b c = refl

  any : Bool
  any = is_set flags 2 || (is_set flags 4 || is_set flags 8)

  pub by_flags : (o : Ordering) → FlaggedOrNone flags o → meets_by flags o ≡ true
  unfolding meets_by any
  by_flags o (inl h) = flagged_by o any (ap (is_flagged flags) h.1 ∙ bit_set flags 2 h.0)
  by_flags o (inr (inl h)) = flagged_by o any (ap (is_flagged flags) h.1 ∙ bit_set flags 4 h.0)
  by_flags o (inr (inr (inl h))) = flagged_by o any (ap (is_flagged flags) h.1 ∙ bit_set flags 8 h.0)
  by_flags o (inr (inr (inr h))) = rw (none_by h.0 h.1 h.2)

-- yes or no
pub is_yes : (b : Bool) → yes_or_no b ≡ Ok 1 → b ≡ true
is_yes true h = refl
is_yes false h = let z : ◌≡◌ {A = ℕ} 0 1 = cc in absurd (omega arith)

pub is_no : (b : Bool) → yes_or_no b ≡ Ok 0 → b ≡ true → ⊥
is_no true h e = let z : ◌≡◌ {A = ℕ} 1 0 = cc in omega arith
is_no false h e = let z : ◌≡◌ {A = ℕ} 0 1 = cc in omega arith

pub not_yes : (b : Bool) → (b ≡ true → ⊥) → yes_or_no b ≡ Ok 0
not_yes true n = absurd (n refl)
not_yes false n = refl
