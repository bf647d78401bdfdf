-- The numbers that are left decide.
use Rattle.std.proofs.Common.{◌≡◌, ◌+◌, ◌*◌, ◌-◌}
use Rattle.texts.specs.Texts.{all_below}
use Rattle.texts.proofs.all_below.Given as goal

abbrev pub invariant-loop-i : goal.invariant-loop-i
invariant-loop-i l = all_below l.pkg l.limit l.n l.place.0 ≡ all_below l.pkg l.limit (l.n - l.i) (l.place.0 + 4 * l.i)
