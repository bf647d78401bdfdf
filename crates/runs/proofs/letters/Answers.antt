-- `runs::letters` meets its contract: without letters both are the same, else the first difference decides.
-- Assumes nothing.
use Rattle.runs.proofs.MetLaws as laws
use borrow.Author.Rules.{rules}
use Rattle.runs.proofs.letters.Goals as goal

pub returns-then-is_none-2 : goal.returns-then-is_none-2
returns-then-is_none-2 c =
    let h = c.if-is_none.ensures in
    let l = c.if-is_none-2.ensures in
    search (laws.no_letters, rules)

pub returns-in_default : goal.returns-in_default
returns-in_default c = search (laws.letters_unlike, rules)

pub returns-in-Equal : goal.returns-in-Equal
returns-in-Equal c = search (laws.letters_same, rules)
