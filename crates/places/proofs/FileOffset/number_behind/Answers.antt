-- Where the sum does not fit, both places are behind the end. Assumes nothing.
use Rattle.places.proofs.BehindLaws as laws
use Rattle.places.proofs.FileOffset.number_behind.Goals as goal

pub returns : goal.returns
returns c = search laws.read
