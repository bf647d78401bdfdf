-- Eight bytes at a time, what is left to scan has the same first zero byte. Assumes nothing.
use Prim.Native.Nat.{◌-◌}
use mathlib.Core.Path.{◌≡◌}
use Rattle.strings.specs.Strings.{next_zero}
use Rattle.strings.proofs.next_zero.Given as goal

abbrev pub invariant-loop-i : goal.invariant-loop-i
invariant-loop-i l = next_zero l.s (l.stop - l.at) l.at ≡ next_zero l.s (l.stop - l.i) l.i

abbrev pub decreases-loop-i : goal.decreases-loop-i
decreases-loop-i l = l.stop - l.i
