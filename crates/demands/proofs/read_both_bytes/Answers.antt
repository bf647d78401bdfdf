-- Each reading keeps its promise, and the two agree by demand 3. Assumes nothing.
use Rattle.reading.specs.Buffers.{Bytes}
use Rattle.demands.proofs.BothLaws as laws
use Rattle.demands.proofs.read_both_bytes.Goals as goal

pub returns : goal.returns
returns c = laws.read_both_lem Bytes _ _ _ _ _ (search) (search)
