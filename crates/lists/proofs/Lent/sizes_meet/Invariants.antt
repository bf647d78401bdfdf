-- Each size is taken from what is left of the row's length. Assumes nothing.
use Prim.Native.Nat.{◌-◌}
use mathlib.Core.Path.{◌≡◌}
use lib.Dec.{eqb}
use Rattle.lists.specs.Lists.{sizes_from, sizes_meet}
use Rattle.lists.proofs.Lent.sizes_meet.Given as goal

abbrev pub invariant-loop-i : goal.invariant-loop-i
invariant-loop-i l = sizes_meet l.self.list.now l.self.row.now ≡ eqb (sizes_from l.self.list.now (l.n - l.i) l.i) l.left
