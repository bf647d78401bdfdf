-- What is left to scan has the same first zero byte.
use Rattle.std.proofs.Common.{◌≡◌, ◌-◌}
use Rattle.strings.specs.Strings.{next_zero}
use Rattle.strings.proofs.next_zero_near.Given as goal

abbrev pub invariant-loop-i : goal.invariant-loop-i
invariant-loop-i l = next_zero l.s (l.stop - l.at) l.at ≡ next_zero l.s (l.stop - l.i) l.i
