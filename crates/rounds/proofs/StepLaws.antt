-- One more turn of the loop of a round, and its end: the 16 steps are the listing of the RFC.
-- Assumes nothing.
use Rattle.std.proofs.Common.{◌≡◌, ℕ, suc, ◌+◌, ◌-◌, ◌<◌, ◌≤◌, List, refl, sym, ap, ◌∙◌, arith}
use Rattle.words.specs.declared.State.{State}
use Rattle.words.specs.declared.Round.{Round}
use Rattle.rounds.specs.Rounds.{round}
use Rattle.rounds.specs.Steps.{step, steps}
use Rattle.rounds.proofs.ListingLaws.{round_steps}

module _ (r : Round) (X T : List ℕ) where
  steps_suc : (m n : ℕ) (q : State) → steps r X T (suc m) n q ≡ steps r X T m (n + 1) (step r X T n q)
  unfolding steps
  steps_suc m n q = refl

  pub next_step : (n : ℕ) (goal q p : State) → n < 16 → goal ≡ steps r X T (16 - n) n q → p ≡ step r X T n q
      → goal ≡ steps r X T (16 - (n + 1)) (n + 1) p
  next_step n goal q p h inv e =
      let k : 16 - n ≡ suc (16 - (n + 1)) = omega arith in
      inv ∙ ap (λ (m : ℕ). steps r X T m n q) k ∙ steps_suc (16 - (n + 1)) n q ∙ ap (steps r X T (16 - (n + 1)) (n + 1)) (sym e)

  pub last_step : (n : ℕ) (begin q : State) → 16 ≤ n → steps r X T 16 0 begin ≡ steps r X T (16 - n) n q → q ≡ round r X T begin
  unfolding steps
  last_step n begin q h inv =
      let k : 16 - n ≡ 0 = omega arith in
      sym (round_steps r X T begin ∙ inv ∙ ap (λ (m : ℕ). steps r X T m n q) k)
