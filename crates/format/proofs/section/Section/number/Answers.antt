-- Either way the number is read at its place. Assumes nothing.
use Rattle.format.proofs.RecordLaws as laws
use Rattle.format.proofs.section.Section.number.Goals as goal

pub number_within-requires : goal.number_within-requires
number_within-requires c = search laws.number_whole

pub returns-then-at-le-COUNT : goal.returns-then-at-le-COUNT
returns-then-at-le-COUNT c = search laws.number_read

pub returns : goal.returns
returns c = search laws.number_placed
