-- Each turn works one block in, and after the last one fewer than 64 bytes are left.
-- Assumes nothing.
use Rattle.std.proofs.Common.{◌∙◌, arith}
use Rattle.rounds.proofs.BlockLaws.{next_block, last_block}
use Rattle.rounds.proofs.run.Goals as goal

pub loop-part-preserved : goal.loop-part-preserved
loop-part-preserved c =
    let inv = c.loop-part.invariant in
    let h = c.in-Some.ensures.steps in
    (h.0 ∙ inv.0, next_block _ _ _ _ _ _ _ inv.1 (h.1.0, h.1.1 ∙ inv.0) c.one_block-q.ensures)

pub returns : goal.returns
returns c = last_block _ _ _ _ (omega (arith, c.in-None.ensures.steps.1.0)) c.loop-part.invariant.1
