use Rattle.std.proofs.Common.{◌∙◌}
use Rattle.format.proofs.VerdictLaws.{handed}
use Rattle.format.proofs.RunLaws as laws
use Rattle.files.proofs.FilesLaws.{lists_run}
use Rattle.files.proofs.lists.Goals as goal

pub loop-tag-init : goal.loop-tag-init
loop-tag-init c = search lists_run

pub returns-in_err-counts : goal.returns-in_err-counts
returns-in_err-counts c = let w = c.in_err-counts.was in handed c.from_residual.ensures ∙ search laws.ends

pub loop-tag-preserved : goal.loop-tag-preserved
loop-tag-preserved c = let w = c.in_ok-counts.was in search laws.turn

pub returns : goal.returns
returns c = search laws.spent
