-- The names that are left decide; the next of them starts where the strings before it end. Assumes nothing.
use Prim.Native.Nat.{◌-◌}
use mathlib.Core.Path.{◌≡◌}
use Rattle.strings.specs.Strings.{strings_from}
use Rattle.required.specs.Version.{number_from}
use Rattle.required.proofs.number_of.Given as goal
use Rattle.std.specs.Prelude.{Some}

abbrev pub invariant-loop-k : goal.invariant-loop-k
invariant-loop-k l = (strings_from l.pkg l.fn.names.extent l.fn.names.at.0 l.k ≡ Some l.at.0)
    × (number_from l.pkg l.name l.fn.names l.fn.names.count 0 ≡ number_from l.pkg l.name l.fn.names (l.fn.names.count - l.k) l.k)
