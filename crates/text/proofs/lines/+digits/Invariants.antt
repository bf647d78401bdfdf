-- The digits before the last are those of a tenth of the number. The measure is the number.
-- Assumes nothing.
use Rattle.text.proofs.lines.+digits.Given as goal

abbrev pub decreases-digits : goal.decreases-digits
decreases-digits l = l.n
