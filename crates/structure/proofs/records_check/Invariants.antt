-- The records that are left decide, and the first of them that repeats a tag. Assumes nothing.
use Rattle.structure.specs.Structure.{records_check}
use Rattle.entries.specs.Entries.{record_check}
use Rattle.among.specs.Among.{first_from}
use Rattle.repeats.specs.Repeats.{repeated_in}
use Rattle.format.specs.Verdicts.{run_from}
use mathlib.Core.Path.{◌≡◌}
use Prim.Native.Nat.{◌-◌}
use Rattle.structure.proofs.records_check.Given as goal

abbrev pub invariant-loop-i : goal.invariant-loop-i
invariant-loop-i l = (l.repeat ≡ first_from (repeated_in l.s l.section) (l.n - l.i) l.i)
    × (records_check l.structure l.s l.section ≡ run_from (record_check l.structure l.s l.section) (l.n - l.i) l.i)
