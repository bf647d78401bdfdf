-- The rules of types and counts: check 9 is that the type is in the table (type_lawful_lem), check 10 that the count is at
-- least 1, and exactly 1 for type 6 and, in the signature, for type 9 (count_lawful).
use Prim.Native.Nat.{ℕ, suc, ◌%◌, ◌≤◌, ◌<◌}
use mathlib.Core.Path.{◌≡◌, refl}
use mathlib.Core.Logic.{◌⊎◌, inl, inr, ⊎_elim, ◌↔◌, ◌≢◌}
use mathlib.Core.Bool.{Bool, true, false, cond, ◌||◌}
use lib.Dec.{eqb, leb}
use native.Mathlib.Omega.{arith}
use native.Mathlib.Nat.{eq-or-lt_of_le}
use borrow.Author.Tests.{eqb-true, eqb-false, eq-eqb, ne_eqb, leb-true, le-leb}
use Rattle.format.specs.declared.section.Structure.{Structure}
use Rattle.format.specs.declared.section.Structure.TheVariants.{Signature, Header}
use Rattle.format.specs.declared.records.IndexRecord.{IndexRecord}
use Rattle.entries.specs.Types.{element_size, is_lawful}
use Rattle.entries.specs.Entries.{count_right}

-- 9
module _ (ty : ℕ) where
  -- 10 upward: a remainder of 10 is another type
  past_table : 9 < ty → is_lawful (element_size ty) ≡ false
  unfolding element_size
  past_table l = simp (other 1, other 2, other 3, other 4, other 6, other 7, other 8, other 9)
    where
      other : (k : ℕ) → eqb ty (k % 10) ≡ false
      other k = ne_eqb ty (k % 10) (λ e. omega arith)

  -- from 9 down
  down : (k : ℕ) → ty ≤ suc k → (ty ≡ suc k → is_lawful (element_size ty) ≡ true)
      → (ty ≤ k → is_lawful (element_size ty) ≡ true) → is_lawful (element_size ty) ≡ true
  down k l here below = ⊎_elim here (λ m. below (omega arith)) (eq-or-lt_of_le l)

  in_table : 1 ≤ ty → ty ≢ 5 → ty ≤ 9 → is_lawful (element_size ty) ≡ true
  unfolding element_size
  in_table l n m =
      down 8 m (λ e. rw e) λ m. down 7 m (λ e. rw e) λ m. down 6 m (λ e. rw e) λ m. down 5 m (λ e. rw e)
      λ m. down 4 m (λ e. absurd (n e)) λ m. down 3 m (λ e. rw e) λ m. down 2 m (λ e. rw e) λ m. down 1 m (λ e. rw e)
      λ m. let e : ty ≡ 1 = omega arith in rw e

  clash : is_lawful (element_size ty) ≡ true → is_lawful (element_size ty) ≡ false → ⊥
  clash h f = let z : ◌≡◌ {A = ℕ} 0 1 = cc in omega arith

  pub type_lawful_lem : (is_lawful (element_size ty) ≡ true) ↔ ((1 ≤ ty) × (ty ≢ 5) × (ty ≤ 9))
  unfolding element_size
  type_lawful_lem = (
    λ h. let n : ty ≡ 0 → ⊥ = λ e. clash h (rw e) in
        let p : 9 < ty → ⊥ = λ l. clash h (past_table l) in
        (omega arith, λ e. clash h (rw e), omega arith),
    λ h. in_table h.0 h.1 h.2,
  )

-- 10
module _ (e : IndexRecord) where
  -- what check 10 says in a structure
  abbrev pub Counted : Structure → Type 0
  Counted structure = (1 ≤ e.count) × (e.ty ≡ 6 → e.count ≡ 1) × (structure ≡ Signature → e.ty ≡ 9 → e.count ≡ 1)

  one : (structure : Structure) → (e.ty ≡ 6) ⊎ ((structure ≡ Signature) × (e.ty ≡ 9))
      → (eqb e.count 1 ≡ true) ↔ Counted structure
  one structure k = (
    λ h. let c = eqb-true e.count 1 h in (omega arith, λ k. c, λ q k. c),
    λ h. eq-eqb _ _ (⊎_elim h.1 (λ q. h.2 q.0 q.1) k),
  )

  some : (structure : Structure) → (e.ty ≡ 6 → ⊥) → (structure ≡ Signature → e.ty ≡ 9 → ⊥)
      → (leb 1 e.count ≡ true) ↔ Counted structure
  some structure six nine = (
    λ h. (leb-true _ _ h, λ k. absurd (six k), λ q k. absurd (nine q k)),
    λ h. le-leb _ _ h.0,
  )

  signed : (a b : Bool) → eqb e.ty 6 ≡ a → eqb e.ty 9 ≡ b
      → (cond (a || b) (eqb e.count 1) (leb 1 e.count) ≡ true) ↔ Counted Signature
  signed true b p q = one Signature (inl (eqb-true _ _ p))
  signed false true p q = one Signature (inr (refl, eqb-true _ _ q))
  signed false false p q = some Signature (eqb-false _ _ p) (λ k. eqb-false _ _ q)

  headed : (a : Bool) → eqb e.ty 6 ≡ a → (cond a (eqb e.count 1) (leb 1 e.count) ≡ true) ↔ Counted Header
  headed true p = one Header (inl (eqb-true _ _ p))
  headed false p = some Header (eqb-false _ _ p) (λ k. let z : ◌≡◌ {A = ℕ} 0 1 = cc in absurd (omega arith))

  pub count_lawful : (structure : Structure) → (count_right structure e ≡ true) ↔ Counted structure
  unfolding count_right
  count_lawful Signature = signed (eqb e.ty 6) (eqb e.ty 9) refl refl
  count_lawful Header = headed (eqb e.ty 6) refl
