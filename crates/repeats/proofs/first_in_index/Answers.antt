-- The records of a structure are those of the package from its first record on. Assumes nothing.
use Rattle.repeats.proofs.IndexLaws as laws
use Rattle.repeats.proofs.first_in_index.Goals as goal

pub returns : goal.returns
returns c = search laws.searched
