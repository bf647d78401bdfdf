-- The records that are left decide. Assumes nothing.
use Prim.Native.Nat.{◌≤◌}
use mathlib.Core.Path.{◌≡◌}
use Rattle.among.specs.Among.{tag_among}
use Rattle.among.proofs.among_by_1.Given as goal

abbrev pub invariant-loop-k : goal.invariant-loop-k
invariant-loop-k l = tag_among l.s l.n l.tag ≡ tag_among l.s l.k l.tag
