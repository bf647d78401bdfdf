-- The numbers of checks 5 to 13: structure_number; of a checked structure: checked_pass, checked_fail, checked_zero.
use Prim.Native.Nat.{ℕ, ◌≤◌}
use mathlib.Core.Path.{◌≡◌, refl}
use mathlib.Core.List.{List}
use native.Mathlib.Omega.{arith}
use Rattle.format.specs.declared.section.Section.{Section}
use Rattle.format.specs.declared.section.Structure.{Structure}
use Rattle.format.specs.declared.records.HeaderRecord.{HeaderRecord}
use Rattle.format.specs.declared.records.IndexRecord.{IndexRecord}
use Rattle.format.proofs.NumberLaws.{pass_number, check_number, both_number}
use Rattle.format.proofs.FirstLaws.{run_fails}
use Rattle.entries.specs.Entries.{entry_check}
use Rattle.structure.specs.Structure.{section_at, header_check, structure_check}
use Rattle.structure.specs.Checked.{checked_as, structure_checked, checked_number, checked_place}
use Rattle.std.specs.Prelude.{Option, Ok, Err}
use Rattle.format.specs.Verdicts.{Verdict, pass, refusal}

module _ {number place : ℕ} where
  header_number : (len start : ℕ) (h : HeaderRecord) → header_check len start h ≡ Err (refusal number place)
      → (5 ≤ number) × (number ≤ 13)
  unfolding header_check
  header_number len start h k =
      let next = check_number 5 13 in
      next _ _ _ _ k (omega arith) λ k. next _ _ _ _ k (omega arith) λ k. next _ _ _ _ k (omega arith)
      λ k. next _ _ _ _ k (omega arith) λ k. next _ _ _ _ k (omega arith)
      λ k. next _ _ _ _ k (omega arith) (pass_number 5 13)

  entry_number : (structure : Structure) (s : List ℕ) (section : Section) (i at : ℕ) (e : IndexRecord) (end : Option ℕ)
      → entry_check structure s section i at e end ≡ Err (refusal number place) → (5 ≤ number) × (number ≤ 13)
  unfolding entry_check
  entry_number structure s section i at e end k =
      let next = check_number 5 13 in
      next _ _ _ _ k (omega arith) λ k. next _ _ _ _ k (omega arith) λ k. next _ _ _ _ k (omega arith)
      λ k. next _ _ _ _ k (omega arith) λ k. next _ _ _ _ k (omega arith) (pass_number 5 13)

  -- checks 5 to 13
  pub structure_number : (structure : Structure) (s : List ℕ) (len start : ℕ) → structure_check structure s len start ≡ Err (refusal number place)
      → (5 ≤ number) × (number ≤ 13)
  unfolding structure_check
  structure_number structure s len start k =
      both_number 5 13 _ _ k (header_number _ _ _) λ k. entry_number _ _ _ _ _ _ _ ((run_fails _ _ 0).0 k).fails

-- number and place of a checked structure are those of its verdict, 0 and 0 where all checks passed
module _ (v : Verdict) (section : Section) where
  pub checked_pass : v ≡ pass → (checked_number (checked_as v section) ≡ 0) × (checked_place (checked_as v section) ≡ 0)
  checked_pass h = (rw h, rw h)

  pub checked_fail : {number place : ℕ} → v ≡ Err (refusal number place)
      → (checked_number (checked_as v section) ≡ number) × (checked_place (checked_as v section) ≡ place)
  checked_fail h = (rw h, rw h)

-- the number is 0 only there
pub checked_zero : (structure : Structure) (s : List ℕ) (len start : ℕ) → checked_number (structure_checked structure s len start) ≡ 0
    → structure_check structure s len start ≡ pass
checked_zero structure s len start h = go (structure_check structure s len start) refl h
  where
    go : (v : Verdict) → structure_check structure s len start ≡ v → checked_number (checked_as v (section_at s start)) ≡ 0 → v ≡ pass
    go (Ok _) e k = refl
    go (Err refused) e k = let t = structure_number structure s len start e in absurd (omega arith)
