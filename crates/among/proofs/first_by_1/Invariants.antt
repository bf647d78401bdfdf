-- The records that are left decide. Assumes nothing.
use Prim.Native.Nat.{◌-◌}
use mathlib.Core.Path.{◌≡◌}
use Rattle.among.specs.Among.{has_tag, first_from}
use Rattle.among.proofs.first_by_1.Given as goal

abbrev pub invariant-loop-i : goal.invariant-loop-i
invariant-loop-i l = first_from (has_tag l.s l.tag) (l.n - l.from) l.from ≡ first_from (has_tag l.s l.tag) (l.n - l.i) l.i
