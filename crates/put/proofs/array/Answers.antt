use Rattle.put.proofs.PutLaws as laws
use Rattle.put.proofs.array.Goals as goal

pub returns-then-from-room : goal.returns-then-from-room
returns-then-from-room c = search laws.all_put

pub returns-else-from-room : goal.returns-else-from-room
returns-else-from-room c = search laws.room_put
