-- `runs::same_front` meets its contract.
-- Assumes nothing.
use Rattle.std.proofs.Common.{arith, sym}
use Rattle.runs.proofs.CommonLaws as laws
use Rattle.runs.proofs.same_front.Goals as goal
use Rattle.runs.proofs.same_front.Goals.{then-a-i-via-then-a-i, then-a-i-via-else-a-i+then-not-of_kind}

pub returns-then-a-i : goal.returns-then-a-i
returns-then-a-i c =
    elim c.then-a-i.branch [
      | then-a-i-via-then-a-i w ↦ (
        laws.common_differ _ _ _ _ _ c.loop-i.invariant (omega arith) (omega arith) w.if-a-i.true,
        omega arith,
        omega arith,
      )
      | then-a-i-via-else-a-i+then-not-of_kind w ↦ (
        laws.common_stop _ _ _ _ _ c.loop-i.invariant (omega arith) (omega arith) (sym w.if-not-of_kind.ensures),
        omega arith,
        omega arith,
      )
    ]

pub loop-i-preserved : goal.loop-i-preserved
loop-i-preserved c =
    laws.common_turn _ _ _ _ _ c.loop-i.invariant (omega arith) (omega arith) c.if-a-i.false (sym c.if-not-of_kind.ensures)

pub returns : goal.returns
returns c =
    (omega (arith, laws.common_over _ _ _ _ _ c.loop-i.invariant (λ h. omega arith)), omega arith, omega arith)
