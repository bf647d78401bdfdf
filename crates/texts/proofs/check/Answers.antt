-- A rung for each rule, in order, the programs as one.
use Rattle.std.proofs.Common.{◌∙◌}
use Rattle.format.proofs.VerdictLaws.{handed, passed, stopped, answers, went, halted}
use Rattle.texts.proofs.TextsLaws.{texts_as}
use Rattle.texts.proofs.check.Goals as goal

pub returns-then-not-text_is : goal.returns-then-not-text_is
returns-then-not-text_is c = rw (texts_as _ _ _) (search (passed, stopped, answers, went, halted) depth 16)

pub returns-in_err-programs : goal.returns-in_err-programs
returns-in_err-programs c =
    let w = c.in_err-programs.was in
    handed c.from_residual.ensures ∙ rw (texts_as _ _ _) (search (passed, stopped, answers, went, halted) depth 16)

pub returns-then-not-indexes_below : goal.returns-then-not-indexes_below
returns-then-not-indexes_below c =
    let w = c.in_ok-programs.was in rw (texts_as _ _ _) (search (passed, stopped, answers, went, halted) depth 16)

pub returns-then-not-directories_end : goal.returns-then-not-directories_end
returns-then-not-directories_end c =
    let w = c.in_ok-programs.was in rw (texts_as _ _ _) (search (passed, stopped, answers, went, halted) depth 16)

pub returns : goal.returns
returns c = let w = c.in_ok-programs.was in rw (texts_as _ _ _) (search (passed, stopped, answers, went, halted) depth 16)
