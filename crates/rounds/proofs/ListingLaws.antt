-- The RFC's listing of a round is its 16 steps: the registers are back in their places after each four.
-- Assumes nothing.
use mathlib.Core.Path.{◌≡◌, refl, ap, ◌∙◌}
use mathlib.Core.List.{List, [], ◌∷◌}
use Prim.Native.Nat.{ℕ, ◌+◌, ◌-◌}
use native.Mathlib.Omega.{arith}
use lib.ListN.{get_or}
use Rattle.words.specs.declared.State.{State}
use Rattle.words.specs.declared.Round.{Round}
use Rattle.words.specs.declared.Round.TheVariants.{One, Two, Three, Four}
use Rattle.words.specs.Words.{word_at, auxiliary}
use Rattle.rounds.specs.Rounds.{Operation, ABCD, DABC, CDAB, BCDA, assigned, operated, operations, performed, round}
use Rattle.rounds.specs.Steps.{word_of, first_of, shifts, shift_of, turned, step, steps}

module _ (F : ℕ → ℕ → ℕ → ℕ) (X T : List ℕ) where
  -- an operation, with the registers moved one place on
  moved : (k s i : ℕ) → State → State
  moved k s i q = turned q (F q.b q.c q.d) (word_at X k) (get_or T (i - 1) 0) s

  four_moved : (k₁ s₁ i₁ k₂ s₂ i₂ k₃ s₃ i₃ k₄ s₄ i₄ : ℕ) (rest : List Operation) (q : State)
      → performed F X T (ABCD k₁ s₁ i₁ ∷ DABC k₂ s₂ i₂ ∷ CDAB k₃ s₃ i₃ ∷ BCDA k₄ s₄ i₄ ∷ rest) q
      ≡ performed F X T rest (moved k₄ s₄ i₄ (moved k₃ s₃ i₃ (moved k₂ s₂ i₂ (moved k₁ s₁ i₁ q))))
  unfolding performed operated assigned moved turned
  four_moved k₁ s₁ i₁ k₂ s₂ i₂ k₃ s₃ i₃ k₄ s₄ i₄ rest q = refl

  performed_none : (q : State) → performed F X T [] q ≡ q
  unfolding performed
  performed_none q = refl

-- four operations of a round from its n-th on
four : Round → ℕ → List Operation → List Operation
four r n rest =
    ABCD (word_of r n) (shift_of r n) (first_of r + n + 1)
    ∷ DABC (word_of r (n + 1)) (shift_of r (n + 1)) (first_of r + (n + 1) + 1)
    ∷ CDAB (word_of r (n + 2)) (shift_of r (n + 2)) (first_of r + (n + 2) + 1)
    ∷ BCDA (word_of r (n + 3)) (shift_of r (n + 3)) (first_of r + (n + 3) + 1)
    ∷ rest

operations_four : (r : Round) → operations r ≡ four r 0 (four r 4 (four r 8 (four r 12 [])))
unfolding operations four word_of shift_of shifts
operations_four One = refl
operations_four Two = refl
operations_four Three = refl
operations_four Four = refl

module _ (r : Round) (X T : List ℕ) where
  moved_step : (n : ℕ) (q : State) → moved (auxiliary r) X T (word_of r n) (shift_of r n) (first_of r + n + 1) q ≡ step r X T n q
  unfolding moved step
  moved_step n q = let e : first_of r + n + 1 - 1 ≡ first_of r + n = omega arith in rw e

  four_steps : (n : ℕ) (rest : List Operation) (q : State)
      → performed (auxiliary r) X T (four r n rest) q
      ≡ performed (auxiliary r) X T rest (step r X T (n + 3) (step r X T (n + 2) (step r X T (n + 1) (step r X T n q))))
  unfolding four
  four_steps n rest q = four_moved (auxiliary r) X T _ _ _ _ _ _ _ _ _ _ _ _ rest q ∙ simp moved_step

  sixteen_steps : (q : State)
      → step r X T 15 (step r X T 14 (step r X T 13 (step r X T 12
      (step r X T 11 (step r X T 10 (step r X T 9 (step r X T 8
      (step r X T 7 (step r X T 6 (step r X T 5 (step r X T 4
      (step r X T 3 (step r X T 2 (step r X T 1 (step r X T 0 q)))))))))))))))
      ≡ steps r X T 16 0 q
  unfolding steps
  sixteen_steps q = refl

  pub round_steps : (q : State) → round r X T q ≡ steps r X T 16 0 q
  round_steps q =
      ap (λ (l : List Operation). performed (auxiliary r) X T l q) (operations_four r)
      ∙ four_steps 0 (four r 4 (four r 8 (four r 12 []))) q
      ∙ four_steps 4 (four r 8 (four r 12 [])) _
      ∙ four_steps 8 (four r 12 []) _
      ∙ four_steps 12 [] _
      ∙ performed_none (auxiliary r) X T _
      ∙ sixteen_steps q
