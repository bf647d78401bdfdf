-- Either way the record is read at its place. Assumes nothing.
use Rattle.format.proofs.RecordLaws as laws
use Rattle.format.proofs.section.Section.record.Goals as goal

pub within-requires : goal.within-requires
within-requires c = search laws.whole

pub returns-then-has_record : goal.returns-then-has_record
returns-then-has_record c = search laws.record_placed

pub returns : goal.returns
returns c = search laws.record_placed
