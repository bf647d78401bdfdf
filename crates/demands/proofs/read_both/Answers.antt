-- Each reading keeps its promise, and the two agree by demand 3. Assumes nothing.
use Rattle.reading.specs.Buffers.{Numbers}
use Rattle.demands.proofs.BothLaws as laws
use Rattle.demands.proofs.read_both.Goals as goal

pub returns : goal.returns
returns c = laws.read_both_lem Numbers _ _ _ _ _ (search) (search)
