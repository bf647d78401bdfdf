-- By whether one of the tags is present; then all are, with the leader's count.
use Rattle.std.proofs.Common.{◌∙◌}
use Rattle.format.proofs.VerdictLaws.{handed, went, halted, told, untold}
use Rattle.tags.proofs.TestLaws.{first_of, second_of}
use Rattle.groups.proofs.led.Goals as goal

pub returns-then-not-any_of : goal.returns-then-not-any_of
returns-then-not-any_of c = search (second_of, untold)

pub returns-in_err-present : goal.returns-in_err-present
returns-in_err-present c =
    let w = c.in_err-present.was in handed c.from_residual.ensures ∙ search (first_of, told, halted) depth 8

pub returns : goal.returns
returns c = let w = c.in_ok-present.was in rw (← c.count.ensures) (search (first_of, told, went) depth 8)
