-- The number of a failure lies where all numbers of the run of checks do: pass_number, check_number, both_number.
use Prim.Native.Nat.{ℕ, ◌≤◌}
use mathlib.Core.Path.{◌≡◌}
use mathlib.Core.Bool.{Bool, true, false}
use native.Mathlib.Omega.{arith}
use Rattle.format.specs.Verdicts.{check, both, Verdict, pass, refusal}
use Rattle.std.specs.Prelude.{Ok, Err}
use Rattle.format.proofs.VerdictLaws.{refusal_same}

module _ (low high : ℕ) {number place : ℕ} where
  pub pass_number : pass ≡ Err (refusal number place) → (low ≤ number) × (number ≤ high)
  pass_number h = let z : ◌≡◌ {A = ℕ} 0 1 = cc in absurd (omega arith)

  pub check_number : (ok : Bool) (n at : ℕ) (rest : Verdict) → check ok n at rest ≡ Err (refusal number place)
      → (low ≤ n) × (n ≤ high)
      → (rest ≡ Err (refusal number place) → (low ≤ number) × (number ≤ high)) → (low ≤ number) × (number ≤ high)
  unfolding check
  check_number true n at rest h p q = q h
  check_number false n at rest h p q = let e = refusal_same h in omega arith

  pub both_number : (v rest : Verdict) → both v rest ≡ Err (refusal number place)
      → (v ≡ Err (refusal number place) → (low ≤ number) × (number ≤ high))
      → (rest ≡ Err (refusal number place) → (low ≤ number) × (number ≤ high)) → (low ≤ number) × (number ≤ high)
  unfolding both
  both_number (Ok _) rest h p q = q h
  both_number (Err e) rest h p q = p h
