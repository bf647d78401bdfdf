-- By the type. Assumes nothing.
use native.Mathlib.Omega.{arith}
use Rattle.layout.proofs.OffsetLaws as laws
use Rattle.layout.proofs.offset_for.Goals as goal

pub returns-in-3 : goal.returns-in-3
returns-in-3 c = let e = c.next_multiple_of.ensures in laws.offset_two _ _ c.in-3.is e.lower_bound e.upper_bound e.multiple

pub returns-in-4 : goal.returns-in-4
returns-in-4 c = let e = c.next_multiple_of-in-4.ensures in laws.offset_four _ _ c.in-4.is e.lower_bound e.upper_bound e.multiple

pub returns-in_default : goal.returns-in_default
returns-in_default c = laws.offset_one c.args.ty c.args.filled (omega arith) (omega arith)
