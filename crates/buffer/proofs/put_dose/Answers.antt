-- The three stores, one behind the other.
use Rattle.buffer.proofs.BufferLaws as laws
use Rattle.buffer.proofs.put_dose.Goals as goal

pub returns : goal.returns
returns c = search laws.three_numbers
