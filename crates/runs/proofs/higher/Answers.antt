-- `runs::higher` meets its contract: without digits both are the same, the longer is newer, else the first digit decides.
-- Assumes nothing.
use borrow.Author.Rules.{rules}
use Rattle.runs.specs.Common.{by_first}
use Rattle.runs.proofs.MetLaws as laws
use Rattle.runs.proofs.higher.Goals as goal

pub returns-then-is_none-2 : goal.returns-then-is_none-2
returns-then-is_none-2 c =
    laws.no_digits _ _ c.byte_of-x.ensures c.byte_of-y.ensures c.if-is_none.ensures c.if-is_none-2.ensures

pub returns : goal.returns
unfolding by_first
returns c = search rules
