-- The bytes that are left decide, with the byte before them.
use Rattle.std.proofs.Common.{◌≡◌, ◌+◌, ◌-◌}
use Rattle.texts.specs.Texts.{slashes_end}
use Rattle.texts.proofs.slashes_end.Given as goal

abbrev pub invariant-loop-i : goal.invariant-loop-i
invariant-loop-i l = slashes_end l.pkg 0 l.extent l.place.0 ≡ slashes_end l.pkg l.last (l.extent - l.i) (l.place.0 + l.i)
