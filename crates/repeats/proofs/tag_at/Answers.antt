-- The four bytes, joined. Assumes nothing.
use Rattle.be.specs.Numbers.{be32_at}
use borrow.Author.Rules.{rules}
use Rattle.repeats.proofs.tag_at.Goals as goal

pub returns : goal.returns
unfolding be32_at
returns c = search rules
