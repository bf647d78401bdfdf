-- The measure is the number of records that are left, by the promise of `step`. Nothing has to hold from turn to turn.
-- Assumes nothing.
use Prim.Native.Nat.{◌-◌}
use Rattle.package.specs.Package.{structure_of}
use Rattle.inspect.proofs.show.put_index.Given as goal

abbrev pub decreases-loop-place : goal.decreases-loop-place
decreases-loop-place g l = (structure_of l.pkg l.which).nindex - l.position.number
