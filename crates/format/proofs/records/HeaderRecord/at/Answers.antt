-- The four numbers are read one by one. Assumes nothing.
use Rattle.format.proofs.RecordLaws as laws
use Rattle.format.proofs.records.HeaderRecord.at.Goals as goal

pub returns : goal.returns
returns c = search laws.header_read
