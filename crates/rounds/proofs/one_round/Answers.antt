-- Each turn is a step, and the 16 steps are the round.
-- Assumes nothing.
use Rattle.rounds.proofs.StepLaws.{next_step, last_step}
use Rattle.rounds.proofs.one_round.Goals as goal

pub loop-n-preserved : goal.loop-n-preserved
loop-n-preserved c = search next_step

pub returns : goal.returns
returns c = search last_step
