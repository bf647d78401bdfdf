-- The records that are left decide; what was passed is at most the highest tag, and marked. Assumes nothing.
use Prim.Native.Nat.{◌≤◌, ◌-◌}
use mathlib.Core.Path.{◌≡◌}
use lib.ListN.{length}
use Rattle.among.specs.Among.{first_from}
use Rattle.repeats.specs.Repeats.{repeated_among}
use Rattle.repeats.specs.Seen.{AtMost, Marked}
use Rattle.repeats.proofs.first_by_flags.Given as goal

abbrev pub invariant-loop-i : goal.invariant-loop-i
invariant-loop-i l = AtMost l.s l.i l.highest × Marked l.s l.i l.flags.words × (length l.flags.words ≡ 64)
    × (first_from (repeated_among l.s) l.n 0 ≡ first_from (repeated_among l.s) (l.n - l.i) l.i)
