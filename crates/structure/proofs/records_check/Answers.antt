use Rattle.structure.proofs.RecordsLaws as laws
use Rattle.std.proofs.Common.{◌∙◌}
use Rattle.format.proofs.RunLaws as run
use Rattle.format.proofs.VerdictLaws.{handed}
use Rattle.structure.proofs.records_check.Goals as goal

pub returns-in_err-entry_check : goal.returns-in_err-entry_check
returns-in_err-entry_check c = let w = c.in_err-entry_check.was in handed c.from_residual.ensures ∙ search laws.ends

pub loop-i-preserved : goal.loop-i-preserved
loop-i-preserved c = let w = c.in_ok-entry_check.was in (search laws.next, search laws.turn)

pub returns : goal.returns
returns c = search run.spent
