-- `runs::same_front` meets its contract. The loop's invariant: the bytes in common are those passed and those from here on.
-- Assumes nothing.
use Rattle.std.proofs.Common.{◌≡◌, ◌+◌, drop}
use Rattle.runs.specs.Common.{common}
use Rattle.runs.proofs.same_front.Given as goal

abbrev pub invariant-loop-i : goal.invariant-loop-i
invariant-loop-i l = common l.k l.a l.b ≡ l.i + common l.k (drop l.i l.a) (drop l.i l.b)
