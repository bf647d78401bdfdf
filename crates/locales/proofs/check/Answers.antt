use Rattle.std.proofs.Common.{◌∙◌, ap}
use Rattle.format.proofs.VerdictLaws.{handed}
use Rattle.format.proofs.RunLaws as laws
use Rattle.locales.specs.Locales.{locale_check}
use Rattle.locales.proofs.check.Goals as goal

pub loop-i-init : goal.loop-i-init
loop-i-init c = search laws.begun

pub returns-in_err-record_check : goal.returns-in_err-record_check
returns-in_err-record_check c =
    let w = c.in_err-record_check.was in
    let p = c.record_check.ensures ∙ ap (locale_check c.args.most) c.record-e.ensures in
    handed c.from_residual.ensures ∙ search laws.ends

pub loop-i-preserved : goal.loop-i-preserved
loop-i-preserved c =
    let w = c.in_ok-record_check.was in
    let p = c.record_check.ensures ∙ ap (locale_check c.args.most) c.record-e.ensures in
    search laws.turn

pub returns : goal.returns
returns c = search laws.spent
