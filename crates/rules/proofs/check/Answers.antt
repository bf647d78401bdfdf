-- Part by part, in order; the gathered tables show what the indexes do.
use Rattle.std.proofs.Common.{◌∙◌}
use Rattle.format.proofs.VerdictLaws.{handed, went, halted}
use Rattle.rules.specs.Rules.{rules_over}
use Rattle.rules.proofs.RulesLaws.{rules_gathered}
use Rattle.rules.proofs.check.Goals as goal

pub returns-in_err-check : goal.returns-in_err-check
unfolding rules_over
returns-in_err-check c =
    let w = c.in_err-check.was in
    handed c.from_residual.ensures ∙ search (rules_gathered, halted) depth 12

pub returns-in_err-size_tag_check : goal.returns-in_err-size_tag_check
unfolding rules_over
returns-in_err-size_tag_check c =
    let a = c.in_ok-check.was in
    let w = c.in_err-size_tag_check.was in
    handed c.from_residual-in_err-size_tag_check.ensures ∙ search (rules_gathered, went, halted) depth 12

pub returns-in_err-check-2 : goal.returns-in_err-check-2
unfolding rules_over
returns-in_err-check-2 c =
    let a = c.in_ok-check.was in
    let b = c.in_ok-size_tag_check.was in
    let w = c.in_err-check-2.was in
    handed c.from_residual-in_err-check-2.ensures ∙ search (rules_gathered, went, halted) depth 12

pub returns : goal.returns
unfolding rules_over
returns c =
    let a = c.in_ok-check.was in
    let b = c.in_ok-size_tag_check.was in
    let d = c.in_ok-check-2.was in
    search (rules_gathered, went) depth 12
