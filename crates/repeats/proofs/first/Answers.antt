-- Where the tags were seen to rise none is repeated; else the flags decide. Assumes nothing.
use Rattle.repeats.proofs.first.Goals as goal

pub returns-then-rises : goal.returns-then-rises
returns-then-rises c = c.rises.ensures c.if-rises.true
