use Rattle.std.proofs.Common.{◌∙◌}
use Rattle.format.proofs.VerdictLaws.{handed}
use Rattle.format.proofs.RunLaws as laws
use Rattle.groups.proofs.pairs.Goals as goal

pub loop-tag-init : goal.loop-tag-init
loop-tag-init c = search laws.begun

pub returns-in_err-needs : goal.returns-in_err-needs
returns-in_err-needs c = let w = c.in_err-needs.was in handed c.from_residual.ensures ∙ search laws.ends

pub loop-tag-preserved : goal.loop-tag-preserved
loop-tag-preserved c = let w = c.in_ok-needs.was in search laws.turn

pub returns : goal.returns
returns c = search laws.spent
