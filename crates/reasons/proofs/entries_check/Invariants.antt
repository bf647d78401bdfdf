-- The entries that are left decide, and the first of them that repeats a tag; their data starts where that of the ones before
-- ends. Assumes nothing.
use Prim.Native.Nat.{◌≤◌, ◌-◌, ◌*◌}
use mathlib.Core.Path.{◌≡◌}
use lib.ListN.{length}
use Rattle.lists.specs.Lists.{entries_from, entries_of}
use Rattle.reasons.specs.Reasons.{entries_reasons, own_tags, tags_before}
use Rattle.among.specs.Among.{first_from}
use Rattle.repeats.specs.Repeats.{repeated_among}
use Rattle.reasons.proofs.entries_check.Given as goal

abbrev pub invariant-loop-i : goal.invariant-loop-i
invariant-loop-i l = (16 * l.n ≤ length l.lent.list.now) × (l.at ≤ 4294967295 * l.i)
    × (l.repeat ≡ first_from (repeated_among l.lent.list.now) (l.n - l.i) l.i)
    × (entries_reasons l.structure (own_tags l.structure) (entries_of l.lent.list.now l.lent.row.now)
    ≡ entries_reasons l.structure (tags_before l.structure l.lent.list.now l.i) (entries_from l.lent.list.now l.lent.row.now (l.n - l.i) l.i l.at))
