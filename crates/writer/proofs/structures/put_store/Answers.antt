use native.Mathlib.Nat.{sub-zero}
use native.Mathlib.Omega.{arith}
use Rattle.layout.proofs.TurnLaws as turn
use Rattle.writer.proofs.TurnLaws as laws
use borrow.Author.Rules.{rules}
use Rattle.writer.proofs.structures.put_store.Goals as goal
use Rattle.writer.proofs.structures.put_store.Goals.{then-gap-ne0, else-gap-ne0}

pub loop-i-init : goal.loop-i-init
loop-i-init c = (
  omega arith,
  rw (c.count-n.ensures, sub-zero) (search rules),
  search rules,
  search rules,
  rw (c.count-n.ensures, sub-zero) (search rules),
  rw (c.count-n.ensures, sub-zero),
  search rules,
)

pub loop-i-preserved : goal.loop-i-preserved
loop-i-preserved c =
    elim c.if-gap-ne0.branch [
      | then-gap-ne0 w ↦ (
        search rules,
        search turn.row_turn,
        search rules,
        search rules,
        rw (w.to-is, w.from-is) (search laws.gap_next),
        rw (w.to-is, w.from-is, w.out-is) (search laws.gap_turn),
        search rules,
      )
      | else-gap-ne0 w ↦ (
        search rules,
        search turn.row_turn,
        search rules,
        search rules,
        rw (w.to-is, w.from-is) (search laws.run_next),
        rw (w.to-is, w.from-is, w.out-is) (search laws.run_turn),
        search rules,
      )
    ]

pub returns : goal.returns
returns c = search laws.store_spent
