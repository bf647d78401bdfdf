use Rattle.tags.proofs.TestLaws.{same_number, other_number}
use Rattle.files.proofs.LadderLaws as laws
use Rattle.files.proofs.counted.Goals as goal

pub returns-then-count-n : goal.returns-then-count-n
returns-then-count-n c = search (laws.ends, other_number)

pub loop-tag-preserved : goal.loop-tag-preserved
loop-tag-preserved c = search (laws.turn, same_number)

pub returns : goal.returns
returns c = search laws.spent
