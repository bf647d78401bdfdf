use Rattle.std.proofs.Common.{◌∙◌, rules}
use Rattle.format.proofs.VerdictLaws.{handed}
use Rattle.among.proofs.FirstLaws as first
use Rattle.reasons.proofs.ReasonLaws as laws
use Rattle.reasons.proofs.entries_check.Goals as goal

pub loop-i-init : goal.loop-i-init
loop-i-init c = (search rules, search rules, search first.begun, rw c.count-n.ensures (search laws.entries_begun))

pub returns-in_err-entry_check : goal.returns-in_err-entry_check
returns-in_err-entry_check c =
    let w = c.in_err-entry_check.was in handed c.from_residual.ensures ∙ search laws.entries_ends

pub loop-i-preserved : goal.loop-i-preserved
loop-i-preserved c =
    let w = c.in_ok-entry_check.was in
    (search rules, search rules, search laws.entries_next, search laws.entries_turn)

pub returns : goal.returns
returns c = search laws.entries_spent
