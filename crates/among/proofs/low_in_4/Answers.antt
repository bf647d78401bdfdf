-- Test by test. Assumes nothing.
use Rattle.among.proofs.AmongLaws as laws
use Rattle.among.proofs.low_in_4.Goals as goal

pub returns-then-s-at : goal.returns-then-s-at
returns-then-s-at c = search laws.low_first

pub returns-then-s-at-2 : goal.returns-then-s-at-2
returns-then-s-at-2 c = search laws.low_second

pub returns-then-s-at-3 : goal.returns-then-s-at-3
returns-then-s-at-3 c = search laws.low_third

pub returns : goal.returns
returns c = search laws.low_last
