use native.Mathlib.Nat.{sub-zero}
use Rattle.lists.proofs.ListLaws as laws
use Rattle.lists.proofs.Lent.sizes_meet.Goals as goal

pub loop-i-init : goal.loop-i-init
loop-i-init c = rw (c.count-n.ensures, sub-zero)

pub returns-then-left-size : goal.returns-then-left-size
returns-then-left-size c = search laws.sizes_past

pub loop-i-preserved : goal.loop-i-preserved
loop-i-preserved c = search laws.sizes_turn

pub returns : goal.returns
returns c = search laws.sizes_spent
