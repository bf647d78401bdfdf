-- By whether the sum fits. Assumes nothing.
use Rattle.places.proofs.BehindLaws as laws
use borrow.Author.Rules.{rules}
use Rattle.places.proofs.FileOffset.behind.Goals as goal

pub returns-then-self-n : goal.returns-then-self-n
returns-then-self-n c = search laws.no_room

pub returns : goal.returns
returns c = laws.room _ _ (search rules) (search rules)
