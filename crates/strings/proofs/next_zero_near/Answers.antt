use Rattle.strings.proofs.StringLaws as laws
use Rattle.strings.proofs.next_zero_near.Goals as goal

pub returns-then-s-i-eq0 : goal.returns-then-s-i-eq0
returns-then-s-i-eq0 c = search laws.next_ends

pub loop-i-preserved : goal.loop-i-preserved
loop-i-preserved c = search laws.next_turn

pub returns : goal.returns
returns c = search laws.next_spent
