-- Each tag is above all that were passed, so the records that are left decide. Assumes nothing.
use Prim.Native.Nat.{◌≤◌, ◌-◌}
use mathlib.Core.Path.{◌≡◌}
use Rattle.among.specs.Among.{first_from}
use Rattle.repeats.specs.Repeats.{repeated_among}
use Rattle.repeats.specs.Seen.{AtMost}
use Rattle.repeats.proofs.rises.Given as goal

abbrev pub invariant-loop-i : goal.invariant-loop-i
invariant-loop-i l = (l.i ≤ l.n) × AtMost l.s l.i l.last
    × (first_from (repeated_among l.s) l.n 0 ≡ first_from (repeated_among l.s) (l.n - l.i) l.i)

abbrev pub decreases-loop-i : goal.decreases-loop-i
decreases-loop-i l = l.n - l.i
