-- A run of checks and what it tests, as equivalences: check_iff, last_iff, both_iff, then_iff; the tests themselves:
-- leb_iff, ltb_iff, eqb_iff, cond_iff, choice_iff, unless_iff, not_iff, one_iff, given_iff, same_iff.
use Prim.Native.Nat.{ℕ, ◌≤◌, ◌<◌}
use mathlib.Core.Path.{◌≡◌, refl, sym}
use mathlib.Core.Logic.{◌↔◌, ◌≢◌, ◌⊎◌, inl, inr, ⊎_elim}
use mathlib.Core.List.{List}
use mathlib.Core.Bool.{Bool, true, false, cond, not, ◌||◌, false≢true}
use lib.Dec.{eqb, leb, ltb}
use borrow.Author.Tests.{leb-true, le-leb, ltb-true, lt-ltb, eqb-true, eqb-false, eq-eqb}
use Rattle.be.specs.Bytes.{same_bytes}
use Rattle.be.proofs.SameLaws.{same_eq, same_refl}
use Rattle.format.specs.Verdicts.{check, both, Verdict, pass}
use Rattle.format.proofs.VerdictLaws.{inverted, both_inverted}

pub check_iff : (ok : Bool) (number place : ℕ) (rest : Verdict)
    → (check ok number place rest ≡ pass) ↔ ((ok ≡ true) × (rest ≡ pass))
unfolding check
check_iff ok number place rest = (inverted ok number place rest, λ h. rw h.0 h.1)

pub last_iff : (ok : Bool) (number place : ℕ) → (check ok number place pass ≡ pass) ↔ (ok ≡ true)
unfolding check
last_iff ok number place = (λ h. (inverted ok number place pass h).0, λ h. rw h)

pub both_iff : (v rest : Verdict) → (both v rest ≡ pass) ↔ ((v ≡ pass) × (rest ≡ pass))
unfolding both
both_iff v rest = (both_inverted v rest, λ h. rw h.0 h.1)

-- the first part is as one rule says; where that holds, the rest is as another says
pub then_iff : (v rest : Verdict) {A B : Type 0} → (v ≡ pass) ↔ A → (A → (rest ≡ pass) ↔ B)
    → (both v rest ≡ pass) ↔ (A × B)
then_iff v rest f g =
    simp both_iff
    (λ h. let a = f.0 h.0 in (a, (g a).0 h.1), λ h. (f.1 h.0, (g h.0).1 h.1))

pub leb_iff : (a b : ℕ) → (leb a b ≡ true) ↔ (a ≤ b)
leb_iff a b = (leb-true a b, le-leb a b)

pub ltb_iff : (a b : ℕ) → (ltb a b ≡ true) ↔ (a < b)
ltb_iff a b = (ltb-true a b, lt-ltb a b)

pub eqb_iff : (a b : ℕ) → (eqb a b ≡ true) ↔ (a ≡ b)
eqb_iff a b = (eqb-true a b, eq-eqb a b)

-- a test that is tried only where another is true
pub cond_iff {ℓ} : {A : Type ℓ} (b : Bool) (x y : A) → (cond b x y ≡ y) ↔ (b ≡ true → x ≡ y)
cond_iff true x y = (λ h k. h, λ h. h refl)
cond_iff false x y = (λ h k. absurd (false≢true k), λ h. refl)

-- one of two runs of checks, by a test
pub choice_iff {ℓ} : {A : Type ℓ} (b : Bool) (x y z : A) → (cond b x y ≡ z) ↔ ((b ≡ true → x ≡ z) × (b ≡ false → y ≡ z))
choice_iff true x y z = (λ h. (λ k. h, λ k. absurd (false≢true (sym k))), λ h. h.0 refl)
choice_iff false x y z = (λ h. (λ k. absurd (false≢true k), λ k. h), λ h. h.1 refl)

pub unless_iff : (a b : Bool) → ((not a || b) ≡ true) ↔ (a ≡ true → b ≡ true)
unless_iff true b = (λ h k. h, λ h. h refl)
unless_iff false b = (λ h k. absurd (false≢true k), λ h. refl)

pub not_iff : (b : Bool) → (not b ≡ true) ↔ (b ≡ true → ⊥)
not_iff true = (λ h k. false≢true h, λ h. absurd (h refl))
not_iff false = (λ h k. false≢true k, λ h. refl)

-- one of three tests
pub one_iff : (a b c : Bool) → ((a || b || c) ≡ true) ↔ ((a ≡ true) ⊎ (b ≡ true) ⊎ (c ≡ true))
one_iff true b c = (λ h. inl refl, λ h. refl)
one_iff false true c = (λ h. inr (inl refl), λ h. refl)
one_iff false false c = (λ h. inr (inr h), ⊎_elim none (⊎_elim none (λ h. h)))
  where
    none : false ≡ true → c ≡ true
    none h = absurd (false≢true h)

-- a number that is given only where it is not 0
pub given_iff : (n m : ℕ) → ((eqb n 0 || eqb n m) ≡ true) ↔ (n ≢ 0 → m ≡ n)
given_iff n m = go (eqb n 0) refl
  where
    go : (b : Bool) → eqb n 0 ≡ b → ((b || eqb n m) ≡ true) ↔ (n ≢ 0 → m ≡ n)
    go true q = (λ h k. absurd (k (eqb-true n 0 q)), λ h. refl)
    go false q = (λ h k. sym (eqb-true n m h), λ h. eq-eqb n m (sym (h (eqb-false n 0 q))))

pub same_iff : (a b : List ℕ) → (same_bytes a b ≡ true) ↔ (a ≡ b)
same_iff a b = (same_eq a b, λ e. rw e (same_refl b))
