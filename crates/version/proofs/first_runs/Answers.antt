-- `version::first_runs` meets its contract: the ends are within the texts.
-- Assumes nothing.
use Rattle.runs.specs.Runs.{letter, digit}
use Rattle.version.proofs.TextLaws as laws
use Rattle.version.proofs.first_runs.Goals as goal

pub returns-then-eq-clause-fits : goal.returns-then-eq-clause-fits
returns-then-eq-clause-fits c = laws.met_fits digit c.args.a.now c.args.b.now c.digits.ensures

pub returns-clause-fits : goal.returns-clause-fits
returns-clause-fits c = laws.met_fits letter c.args.a.now c.args.b.now c.letters.ensures
