use Rattle.among.proofs.AmongLaws as laws
use Rattle.among.proofs.among_by_1.Goals as goal

pub returns-then-be32-tag : goal.returns-then-be32-tag
returns-then-be32-tag c = search laws.ends

pub loop-k-preserved : goal.loop-k-preserved
loop-k-preserved c = search laws.turn

pub returns : goal.returns
returns c = search laws.spent
