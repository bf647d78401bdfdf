-- Entry by entry. Assumes nothing.
use Prim.Native.Nat.{◌≤◌, ◌+◌, ◌-◌, ◌*◌}
use mathlib.Core.Path.{◌≡◌}
use lib.ListN.{length}
use lib.Seq.{sets}
use Rattle.lists.specs.Lists.{entries_from, entries_of, sizes_from}
use Rattle.layout.specs.Layout.{index_from}
use Rattle.layout.proofs.TurnLaws.{place_of}
use Rattle.writer.proofs.structures.put_index.Given as goal

abbrev pub invariant-loop-i : goal.invariant-loop-i
invariant-loop-i l = (16 * l.n ≤ length l.lent.list.now) × (sizes_from l.lent.list.now (l.n - l.i) l.i ≤ length l.lent.row.now)
    × (l.filled ≤ 20 + place_of l.lent.list.now l.lent.row.now l.n l.i + 3 * l.i)
    × (sets l.initial.out l.place (index_from l.start (entries_of l.lent.list.now l.lent.row.now))
    ≡ sets l.out (l.place + 16 * l.i) (index_from l.filled
    (entries_from l.lent.list.now l.lent.row.now (l.n - l.i) l.i (place_of l.lent.list.now l.lent.row.now l.n l.i))))
    × (length l.out ≡ length l.initial.out)
