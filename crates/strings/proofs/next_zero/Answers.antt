use Rattle.strings.proofs.StringLaws as laws
use Rattle.strings.proofs.next_zero.Goals as goal

pub returns-then-zero-i : goal.returns-then-zero-i
returns-then-zero-i c = search laws.eight_ends

pub loop-i-preserved : goal.loop-i-preserved
loop-i-preserved c = search laws.eight_turn

pub returns : goal.returns
returns c = search laws.resumed
