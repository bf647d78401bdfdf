-- All three present, then the counts.
use Rattle.std.proofs.Common.{◌∙◌}
use Rattle.format.proofs.VerdictLaws.{handed, went, halted}
use Rattle.files.proofs.FilesLaws.{new_names_as}
use Rattle.files.proofs.new_names.Goals as goal

pub returns-in_err-present : goal.returns-in_err-present
returns-in_err-present c =
    let w = c.in_err-present.was in handed c.from_residual.ensures ∙ rw (new_names_as _ _) (search halted)

pub returns : goal.returns
returns c = let w = c.in_ok-present.was in rw (new_names_as _ _) (search went)
