-- By whether the edition has the batch weight's line.
use Rattle.reading.proofs.OpenedLaws as laws
use Rattle.reading.proofs.opened.sum_check.Goals as goal

pub returns-then-not-in_edition : goal.returns-then-not-in_edition
returns-then-not-in_edition c = search laws.no_batch

pub returns-then-weight-sum : goal.returns-then-weight-sum
returns-then-weight-sum c = search laws.batch_right

pub returns : goal.returns
returns c = search laws.batch_wrong
