use borrow.Author.Rules.{rules}
use Rattle.among.proofs.FirstLaws as first
use Rattle.repeats.proofs.SeenLaws as seen
use Rattle.repeats.proofs.rises.Goals as goal

pub loop-i-init : goal.loop-i-init
loop-i-init c = (search rules, search seen.alone, search seen.first_passed)

pub returns-then-one-last : goal.returns-then-one-last
returns-then-one-last c = search seen.untold

pub returns-then-two-one : goal.returns-then-two-one
returns-then-two-one c = search seen.untold

pub loop-i-preserved : goal.loop-i-preserved
loop-i-preserved c = (search rules, search seen.risen_2, search seen.rise_2)

pub returns-then-i-n : goal.returns-then-i-n
returns-then-i-n c = λ q. search seen.rise_last

pub returns : goal.returns
returns c = λ q. search first.spent
