-- A place at or past the end has nothing to store.
use Rattle.put.proofs.PutLaws as laws
use Rattle.buffer.proofs.put.Goals as goal

pub returns-else-i-out : goal.returns-else-i-out
returns-else-i-out c = search laws.out_of_room
