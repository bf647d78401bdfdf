use Rattle.format.proofs.VerdictLaws.{answers}
use Rattle.files.proofs.LadderLaws as laws
use Rattle.files.proofs.present.Goals as goal

pub returns-then-not-has : goal.returns-then-not-has
returns-then-not-has c = search (laws.ends, answers)

pub loop-tag-preserved : goal.loop-tag-preserved
loop-tag-preserved c = search (laws.turn, answers)

pub returns : goal.returns
returns c = search laws.spent
