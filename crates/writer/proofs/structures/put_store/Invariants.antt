-- Entry by entry: its data joins the run that is put later, or the run is put, with zero bytes. Assumes nothing.
use Prim.Native.Nat.{◌≤◌, ◌+◌, ◌-◌, ◌*◌}
use mathlib.Core.Path.{◌≡◌}
use mathlib.Core.List.{◌++◌}
use lib.ListN.{length, take, drop}
use lib.Seq.{sets}
use Rattle.lists.specs.Lists.{entries_from, entries_of, sizes_from}
use Rattle.layout.specs.Layout.{store_from}
use Rattle.writer.proofs.structures.put_store.Given as goal

abbrev pub invariant-loop-i : goal.invariant-loop-i
invariant-loop-i l = (16 * l.n ≤ length l.lent.list.now)
    × (l.at + sizes_from l.lent.list.now (l.n - l.i) l.i ≡ length l.lent.row.now) × (l.filled ≤ 20 + l.at + 3 * l.i) × (l.from ≤ l.at)
    × (l.to + (l.at - l.from) + length (store_from l.filled (entries_from l.lent.list.now l.lent.row.now (l.n - l.i) l.i l.at)) ≤ length l.initial.out)
    × (sets l.initial.out l.place (store_from l.start (entries_of l.lent.list.now l.lent.row.now))
    ≡ sets l.out l.to (take (l.at - l.from) (drop l.from l.lent.row.now) ++ store_from l.filled (entries_from l.lent.list.now l.lent.row.now (l.n - l.i) l.i l.at)))
    × (length l.out ≡ length l.initial.out)
