use Rattle.std.proofs.Common.{◌∙◌}
use Rattle.format.proofs.VerdictLaws.{handed}
use Rattle.lines.proofs.LinesLaws as laws
use Rattle.lines.proofs.lines_of.Goals.{then-in_edition+in_ok-line_check, else-in_edition}
use Rattle.lines.proofs.lines_of.Goals as goal

pub returns-in_err-line_check : goal.returns-in_err-line_check
returns-in_err-line_check c = let w = c.in_err-line_check.was in handed c.from_residual.ensures ∙ search laws.ends

pub loop-line-preserved : goal.loop-line-preserved
loop-line-preserved c =
    elim c.if-in_edition.branch [
      | then-in_edition+in_ok-line_check w ↦ let k = w.in_ok-line_check.was in search laws.turn
      | else-in_edition w ↦ search laws.skipped
    ]

pub returns : goal.returns
returns c = search laws.spent
