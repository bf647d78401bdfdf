-- The word with one bit more.
use Rattle.flags.proofs.FlagLaws as laws
use Rattle.flags.proofs.Flags.set.Goals as goal

pub returns : goal.returns
returns c = search laws.stored
