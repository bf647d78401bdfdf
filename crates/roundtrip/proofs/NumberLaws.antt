-- The numbers of a writing's refusals are 32 to 34: write_number.
use Prim.Native.Nat.{ℕ, ◌≤◌}
use mathlib.Core.Path.{◌≡◌}
use mathlib.Core.List.{List, [], ◌∷◌}
use native.Mathlib.Omega.{arith}
use Rattle.std.specs.Prelude.{Err}
use Rattle.format.specs.declared.section.Structure.{Structure}
use Rattle.format.specs.Verdicts.{refusal}
use Rattle.format.proofs.NumberLaws.{pass_number, check_number, both_number}
use Rattle.lists.specs.Lists.{ListEntry}
use Rattle.reasons.specs.Reasons.{entry_reasons, entries_reasons, list_reasons, name_reasons, form_reasons, reasons}
use Rattle.plan.specs.Refusals.{room_check, write_check}

-- a number of this writing's own
abbrev Ours : ℕ → Type 0
Ours number = (32 ≤ number) × (number ≤ 34)

module _ {number place : ℕ} where
  entry_number : (structure : Structure) (seen : List ℕ) (entry : ListEntry)
      → entry_reasons structure seen entry ≡ Err (refusal number place) → Ours number
  unfolding entry_reasons
  entry_number structure seen entry k =
      let next = check_number 32 34 in
      next _ _ _ _ k (omega arith) λ k. next _ _ _ _ k (omega arith) λ k. next _ _ _ _ k (omega arith)
      λ k. next _ _ _ _ k (omega arith) (pass_number 32 34)

  entries_number : (structure : Structure) (seen : List ℕ) (entries : List ListEntry)
      → entries_reasons structure seen entries ≡ Err (refusal number place) → Ours number
  unfolding entries_reasons
  entries_number structure seen [] k = pass_number 32 34 k
  entries_number structure seen (entry ∷ rest) k =
      both_number 32 34 _ _ k (entry_number structure seen entry) (entries_number structure (entry.tag ∷ seen) rest)

  list_number : (structure : Structure) (entries : List ListEntry)
      → list_reasons structure entries ≡ Err (refusal number place) → Ours number
  unfolding list_reasons
  list_number structure entries k =
      let next = check_number 32 34 in
      next _ _ _ _ k (omega arith) λ k. next _ _ _ _ k (omega arith) (entries_number structure [] entries)

  name_number : (name : List ℕ) → name_reasons name ≡ Err (refusal number place) → Ours number
  unfolding name_reasons
  name_number name k =
      let next = check_number 32 34 in
      next _ _ _ _ k (omega arith) λ k. next _ _ _ _ k (omega arith) λ k. next _ _ _ _ k (omega arith) (pass_number 32 34)

  form_number : (list row : List ℕ) → form_reasons list row ≡ Err (refusal number place) → Ours number
  unfolding form_reasons
  form_number list row k =
      let next = check_number 32 34 in
      next _ _ _ _ k (omega arith) λ k. next _ _ _ _ k (omega arith) (pass_number 32 34)

  room_number : (needed room : ℕ) → room_check needed room ≡ Err (refusal number place) → Ours number
  unfolding room_check
  room_number needed room k =
      let next = check_number 32 34 in
      next _ _ _ _ k (omega arith) λ k. next _ _ _ _ k (omega arith) (pass_number 32 34)

  pub write_number : (name signature signatureRow header headerRow : List ℕ) (room : ℕ)
      → write_check name signature signatureRow header headerRow room ≡ Err (refusal number place) → Ours number
  unfolding write_check reasons
  write_number name signature signatureRow header headerRow room k =
      both_number 32 34 _ _ k
      (λ k. both_number 32 34 _ _ k (form_number signature signatureRow)
      λ k. both_number 32 34 _ _ k (form_number header headerRow)
      λ k. both_number 32 34 _ _ k (name_number name)
      λ k. both_number 32 34 _ _ k (list_number _ _) (list_number _ _))
      (room_number _ room)
