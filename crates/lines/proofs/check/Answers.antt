-- Part by part, in order; each part is the catalogue's.
use Rattle.std.proofs.Common.{◌∙◌}
use Rattle.format.proofs.VerdictLaws.{handed, went, halted}
use Rattle.lines.specs.Lines.{lines_check}
use Rattle.lines.proofs.LinesLaws.{of_signature, of_header}
use Rattle.lines.proofs.check.Goals as goal

pub returns-in_err-lines_of : goal.returns-in_err-lines_of
unfolding lines_check
returns-in_err-lines_of c =
    let w = c.in_err-lines_of.was in handed c.from_residual.ensures ∙ search (halted, of_signature)

pub returns : goal.returns
unfolding lines_check
returns c = let w = c.in_ok-lines_of.was in search (went, of_signature, of_header)
