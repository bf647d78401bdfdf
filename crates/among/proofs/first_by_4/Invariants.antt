-- The records that are left decide, four at a time while there are four, and then one by one. Assumes nothing.
use Prim.Native.Nat.{◌≤◌, ◌-◌}
use mathlib.Core.Path.{◌≡◌}
use Rattle.among.specs.Among.{has_tag, first_from}
use Rattle.among.proofs.first_by_4.Given as goal

abbrev pub invariant-loop-next : goal.invariant-loop-next
invariant-loop-next l = (l.next ≤ l.n)
    × (first_from (has_tag l.s l.tag) (l.n - l.from) l.from ≡ first_from (has_tag l.s l.tag) (l.n - l.next) l.next)

abbrev pub decreases-loop-next : goal.decreases-loop-next
decreases-loop-next l = l.n - l.next
