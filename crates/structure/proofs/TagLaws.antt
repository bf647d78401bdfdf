-- Index records that passed check 13 have different tags: tags_once. The tag and the type as facts: for_true, true_for.
use Prim.Native.Nat.{ℕ, zero, suc, ◌<◌}
use mathlib.Core.Path.{◌≡◌, refl, sym, ap, ◌∙◌}
use mathlib.Core.List.{List}
use mathlib.Core.Bool.{Bool, true, false, ◌&&◌, ◌||◌}
use lib.Dec.{eqb}
use native.Mathlib.Omega.{arith}
use borrow.Author.Tests.{eqb-true, eqb-false, eq-eqb, not-true}
use Rattle.format.specs.declared.section.Section.{Section}
use Rattle.format.specs.declared.section.Structure.{Structure}
use Rattle.format.specs.declared.records.IndexRecord.{IndexRecord}
use Rattle.format.proofs.VerdictLaws.{inverted}
use Rattle.entries.specs.Entries.{record_at, entry_check, record_check}
use Rattle.repeats.specs.Repeats.{tag_before}
use Rattle.index.specs.Lookup.{is_for}
use Rattle.format.specs.Verdicts.{pass}

and_true : (a b : Bool) → (a && b) ≡ true → (a ≡ true) × (b ≡ true)
and_true true b h = (refl, h)
and_true false b h = let z : ◌≡◌ {A = ℕ} 0 1 = cc in absurd (omega arith)

pub for_true : (tag ty : ℕ) (e : IndexRecord) → is_for tag ty e ≡ true → (e.tag ≡ tag) × (e.ty ≡ ty)
for_true tag ty e h = let k = and_true _ _ h in (eqb-true _ _ k.0, eqb-true _ _ k.1)

pub true_for : (tag ty : ℕ) (e : IndexRecord) → e.tag ≡ tag → e.ty ≡ ty → is_for tag ty e ≡ true
true_for tag ty e p q = rw (eq-eqb _ _ p, eq-eqb _ _ q)

or_true : (a : Bool) {b : Bool} → b ≡ true → (a || b) ≡ true
or_true true h = refl
or_true false h = h

-- the tag of one of the first k records
module _ (s : List ℕ) (section : Section) where
  tag_before_lem : (j k tag : ℕ) → j < k → (record_at s section j).tag ≡ tag → tag_before s section k tag ≡ true
  unfolding tag_before
  tag_before_lem j zero tag l h = absurd (omega arith)
  tag_before_lem j (suc k) tag l h = go (eqb j k) refl (tag_before_lem j k tag)
    where
      go : (b : Bool) → eqb j k ≡ b → (j < k → (record_at s section j).tag ≡ tag → tag_before s section k tag ≡ true)
          → (eqb (record_at s section k).tag tag || tag_before s section k tag) ≡ true
      go true t f =
          let e = ap (λ (i : ℕ). (record_at s section i).tag) (sym (eqb-true j k t)) in
          rw (eq-eqb (record_at s section k).tag tag (e ∙ h))
      go false t f = or_true (eqb (record_at s section k).tag tag) (f (let n = eqb-false j k t in omega arith) h)

module _ (structure : Structure) (s : List ℕ) (section : Section) where
  -- check 13
  tag_new : (k : ℕ) → record_check structure s section k ≡ pass → tag_before s section k (record_at s section k).tag ≡ false
  unfolding entry_check
  tag_new k h =
      let k9 = inverted _ _ _ _ h in
      let k10 = inverted _ _ _ _ k9.1 in
      let k11 = inverted _ _ _ _ k10.1 in
      let k12 = inverted _ _ _ _ k11.1 in
      not-true _ (inverted _ _ _ _ k12.1).0

  earlier_differs : (j k : ℕ) → j < k → record_check structure s section k ≡ pass
      → (record_at s section j).tag ≡ (record_at s section k).tag → ⊥
  earlier_differs j k l p h =
      let e : true ≡ false = sym (tag_before_lem s section j k _ l h) ∙ tag_new k p in
      let z : ◌≡◌ {A = ℕ} 0 1 = cc in
      omega arith

  pub tags_once : (j k : ℕ) → record_check structure s section j ≡ pass → record_check structure s section k ≡ pass
      → (record_at s section j).tag ≡ (record_at s section k).tag → j ≡ k
  tags_once j k p q h =
      let a : j < k → ⊥ = λ l. earlier_differs j k l q h in
      let b : k < j → ⊥ = λ l. earlier_differs k j l p (sym h) in
      omega arith
