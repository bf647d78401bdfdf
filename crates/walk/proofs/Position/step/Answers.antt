use Rattle.walk.proofs.StepLaws.{bounded}
use Rattle.walk.proofs.Position.step.Goals as goal

pub step_in-requires : goal.step_in-requires
step_in-requires c = let w = c.in-Ok.is in search bounded
