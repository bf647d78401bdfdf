-- The end of the records and then the number decide. Assumes nothing.
use Rattle.format.proofs.RecordLaws as laws
use Rattle.format.proofs.section.Section.has_record.Goals as goal

pub returns-then-pkg-get : goal.returns-then-pkg-get
returns-then-pkg-get c = search laws.cut

pub returns : goal.returns
returns c = search laws.held
