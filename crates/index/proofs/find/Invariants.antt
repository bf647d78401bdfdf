-- The records that are left decide, from the first of them that has the tag on. Assumes nothing.
use Rattle.index.specs.Lookup.{find_from}
use mathlib.Core.Path.{◌≡◌}
use Prim.Native.Nat.{◌≤◌, ◌-◌}
use Rattle.index.proofs.find.Given as goal

abbrev pub invariant-loop-next : goal.invariant-loop-next
invariant-loop-next l = (l.next ≤ l.n)
    × (find_from l.s l.section l.n 0 l.tag l.ty ≡ find_from l.s l.section (l.n - l.next) l.next l.tag l.ty)

abbrev pub decreases-loop-next : goal.decreases-loop-next
decreases-loop-next l = l.n - l.next
