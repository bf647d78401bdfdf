use Rattle.std.proofs.Common.{◌∙◌}
use Rattle.format.proofs.VerdictLaws.{handed}
use Rattle.format.proofs.RunLaws as laws
use Rattle.groups.proofs.GroupsLaws.{led_run}
use Rattle.groups.proofs.led_groups.Goals as goal

pub loop-group-init : goal.loop-group-init
loop-group-init c = search led_run

pub returns-in_err-led : goal.returns-in_err-led
returns-in_err-led c = let w = c.in_err-led.was in handed c.from_residual.ensures ∙ search laws.ends

pub loop-group-preserved : goal.loop-group-preserved
loop-group-preserved c = let w = c.in_ok-led.was in search laws.turn

pub returns : goal.returns
returns c = search laws.spent
