-- The numbers of checks 2 to 13 and 28: failed, sound_number; of an opened package: opened_pass, opened_fail, opened_zero.
use Prim.Native.Nat.{ℕ, ◌≤◌}
use mathlib.Core.Path.{◌≡◌, refl}
use mathlib.Core.Logic.{◌⊎◌, inl, inr, ⊎_elim}
use mathlib.Core.List.{List}
use lib.ListN.{length}
use native.Mathlib.Omega.{arith}
use Rattle.format.specs.declared.lead.Lead.{Lead}
use Rattle.format.specs.declared.section.Section.{Section}
use Rattle.format.specs.declared.section.Structure.{Structure}
use Rattle.format.proofs.NumberLaws.{pass_number, check_number}
use Rattle.format.proofs.VerdictLaws.{both_failed}
use Rattle.structure.specs.Structure.{structure_check}
use Rattle.structure.proofs.NumberLaws.{structure_number}
use Rattle.gap.proofs.OrderLaws.{gap_in_order}
use Rattle.package.specs.Lead.{lead_check}
use Rattle.package.specs.Order.{SignaturePasses}
use Rattle.package.specs.Package.{size_check, gap_in, structures_check, package_check, sound_check}
use Rattle.package.specs.Package.{signature_at, header_at, opened_as, opened, opened_number, opened_place}
use Rattle.std.specs.Prelude.{Ok, Err}
use Rattle.format.specs.Verdicts.{Verdict, pass, refusal}

module _ {number place : ℕ} where
  size_number : (len : ℕ) → size_check len ≡ Err (refusal number place) → (2 ≤ number) × (number ≤ 13)
  unfolding size_check
  size_number len k =
      let next = check_number 2 13 in
      next _ _ _ _ k (omega arith) λ k. next _ _ _ _ k (omega arith) (pass_number 2 13)

  lead_number : (lead : Lead) → lead_check lead ≡ Err (refusal number place) → (2 ≤ number) × (number ≤ 13)
  unfolding lead_check
  lead_number lead k =
      let next = check_number 2 13 in
      next _ _ _ _ k (omega arith) λ k. next _ _ _ _ k (omega arith) λ k. next _ _ _ _ k (omega arith)
      λ k. next _ _ _ _ k (omega arith) λ k. next _ _ _ _ k (omega arith) λ k. next _ _ _ _ k (omega arith)
      λ k. next _ _ _ _ k (omega arith) (pass_number 2 13)

  -- a failure is of 2 to 13, or is that of the gap behind a signature that passes
  pub failed : (s : List ℕ) → sound_check s ≡ Err (refusal number place)
      → ((2 ≤ number) × (number ≤ 13)) ⊎ (SignaturePasses s × (gap_in s (length s) ≡ Err (refusal number place)))
  unfolding package_check structures_check
  failed s h =
      ⊎_elim (λ k. inl (size_number _ k))
      (λ size. ⊎_elim (λ k. inl (lead_number _ k))
      (λ lead. ⊎_elim (λ k. inl (of_structure _ _ k))
      (λ first. ⊎_elim (λ k. inr (record { size = size.0; lead = lead.0; signature = first.0 }, k))
      (λ gap. inl (of_structure _ _ gap.1))
      (both_failed _ _ first.1))
      (both_failed _ _ lead.1))
      (both_failed _ _ size.1))
      (both_failed _ _ h)
    where
      of_structure : (structure : Structure) (start : ℕ) → structure_check structure s (length s) start ≡ Err (refusal number place)
          → (2 ≤ number) × (number ≤ 13)
      of_structure structure start k = let t = structure_number structure s (length s) start k in omega arith

  -- checks 2 to 13 and 28
  pub sound_number : (s : List ℕ) → sound_check s ≡ Err (refusal number place) → (2 ≤ number) × ((number ≤ 13) ⊎ (number ≡ 28))
  sound_number s h =
      ⊎_elim (λ t. (t.0, inl t.1))
      (λ t. let n = ((gap_in_order s _ _ _ _ _).0 t.1).0 in (omega arith, inr n))
      (failed s h)

-- number and place of an opened package are those of its verdict, 0 and 0 where all checks passed
module _ (v : Verdict) (signature header : Section) where
  pub opened_pass : v ≡ pass
      → (opened_number (opened_as v signature header) ≡ 0) × (opened_place (opened_as v signature header) ≡ 0)
  opened_pass h = (rw h, rw h)

  pub opened_fail : {number place : ℕ} → v ≡ Err (refusal number place)
      → (opened_number (opened_as v signature header) ≡ number) × (opened_place (opened_as v signature header) ≡ place)
  opened_fail h = (rw h, rw h)

-- the number is 0 only there
pub opened_zero : (s : List ℕ) → opened_number (opened s) ≡ 0 → sound_check s ≡ pass
unfolding opened
opened_zero s h = go (sound_check s) refl h
  where
    go : (v : Verdict) → sound_check s ≡ v → opened_number (opened_as v (signature_at s) (header_at s)) ≡ 0 → v ≡ pass
    go (Ok _) e k = refl
    go (Err refused) e k = let t = sound_number s e in absurd (omega arith)
