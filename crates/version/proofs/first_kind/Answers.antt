-- `version::first_kind` meets its contract: the byte is there, or the text is empty.
-- Assumes nothing.
use Rattle.version.proofs.TextLaws as laws
use borrow.Author.Rules.{rules}
use Rattle.version.proofs.first_kind.Goals as goal

pub returns-in-Some : goal.returns-in-Some
returns-in-Some c = search (laws.kind_here, rules)

pub returns-in-None : goal.returns-in-None
returns-in-None c = search (laws.kind_over, rules)
