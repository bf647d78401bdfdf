-- The lines that are left decide. Assumes nothing.
use mathlib.Core.Path.{◌≡◌}
use lib.ListN.{drop}
use Rattle.catalogue.specs.Lists.{lines_had}
use Rattle.tags.specs.Tables.{shown_by}
use Rattle.lines.specs.Lines.{lines_of}
use Rattle.lines.proofs.lines_of.Given as goal

abbrev pub invariant-loop-line : goal.invariant-loop-line
invariant-loop-line l = lines_of (shown_by l.tags) (lines_had l.edition l.lines)
    ≡ lines_of (shown_by l.tags) (lines_had l.edition (drop l.line-index l.lines))
