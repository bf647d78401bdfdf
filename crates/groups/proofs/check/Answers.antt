-- Part by part, in order.
use Rattle.std.proofs.Common.{◌∙◌}
use Rattle.format.proofs.VerdictLaws.{handed, went, halted}
use Rattle.groups.proofs.GroupsLaws.{groups_as}
use Rattle.groups.proofs.check.Goals as goal

pub returns-in_err-signature_pairs : goal.returns-in_err-signature_pairs
returns-in_err-signature_pairs c =
    let w = c.in_err-signature_pairs.was in
    handed c.from_residual.ensures ∙ rw (groups_as _ _ _ _) (search (went, halted) depth 12)

pub returns-in_err-script_pairs : goal.returns-in_err-script_pairs
returns-in_err-script_pairs c =
    let a = c.in_ok-signature_pairs.was in
    let w = c.in_err-script_pairs.was in
    handed c.from_residual-in_err-script_pairs.ensures ∙ rw (groups_as _ _ _ _) (search (went, halted) depth 12)

pub returns-in_err-check : goal.returns-in_err-check
returns-in_err-check c =
    let a = c.in_ok-signature_pairs.was in
    let b = c.in_ok-script_pairs.was in
    let w = c.in_err-check.was in
    handed c.from_residual-in_err-check.ensures ∙ rw (groups_as _ _ _ _) (search (went, halted) depth 12)

pub returns-in_err-led_groups : goal.returns-in_err-led_groups
returns-in_err-led_groups c =
    let a = c.in_ok-signature_pairs.was in
    let b = c.in_ok-script_pairs.was in
    let d = c.in_ok-check.was in
    let w = c.in_err-led_groups.was in
    handed c.from_residual-in_err-led_groups.ensures ∙ rw (groups_as _ _ _ _) (search (went, halted) depth 12)

pub returns : goal.returns
returns c =
    let a = c.in_ok-signature_pairs.was in
    let b = c.in_ok-script_pairs.was in
    let d = c.in_ok-check.was in
    let e = c.in_ok-led_groups.was in
    rw (groups_as _ _ _ _, ← c.count.ensures) (search (went, halted) depth 12)
