-- The last of the four first. Assumes nothing.
use Rattle.among.proofs.AmongLaws as laws
use Rattle.among.proofs.tag_in_4.Goals as goal

pub returns-then-tag_is : goal.returns-then-tag_is
returns-then-tag_is c = search laws.four_first

pub returns-then-tag_is-2 : goal.returns-then-tag_is-2
returns-then-tag_is-2 c = search laws.four_second

pub returns-then-tag_is-3 : goal.returns-then-tag_is-3
returns-then-tag_is-3 c = search laws.four_third

pub returns : goal.returns
returns c = search laws.four_last
