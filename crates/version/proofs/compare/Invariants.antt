-- `version::compare` meets its contract. The loop's invariant: what is left of the texts compares as they do.
-- Assumes nothing.
use Rattle.std.proofs.Common.{◌≡◌, length}
use Rattle.version.specs.Version.{by_text}
use Rattle.version.proofs.compare.Given as goal

abbrev pub invariant-loop-a : goal.invariant-loop-a
invariant-loop-a l = by_text l.left l.right ≡ by_text l.a l.b

abbrev pub decreases-loop-a : goal.decreases-loop-a
decreases-loop-a l = length l.a
