use Rattle.gap.proofs.GapLaws as laws
use Rattle.gap.proofs.check.Goals as goal

pub loop-init : goal.loop-init
loop-init c = laws.begun _ _ _

pub overflow_cast-place : goal.overflow_cast-place
overflow_cast-place c = search laws.place_fits

pub returns-then-b-ne0 : goal.returns-then-b-ne0
returns-then-b-ne0 c = search laws.stray_ends

pub loop-preserved : goal.loop-preserved
loop-preserved c = search laws.zero_turn

pub returns : goal.returns
returns c = search laws.spent
