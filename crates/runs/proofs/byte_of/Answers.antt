-- `runs::byte_of` meets its contract: the byte is there and of the kind, or there is none.
-- Assumes nothing.
use borrow.Author.Rules.{rules}
use Rattle.runs.proofs.CommonLaws as laws
use Rattle.runs.proofs.byte_of.Goals as goal

pub returns-in-Some : goal.returns-in-Some
returns-in-Some c = search (laws.byte_here, rules)

pub returns-in_default : goal.returns-in_default
returns-in_default c = search (laws.byte_over, laws.byte_other, rules)

pub returns-in_default-2 : goal.returns-in_default-2
returns-in_default-2 c = search (laws.byte_over, laws.byte_other, rules)
