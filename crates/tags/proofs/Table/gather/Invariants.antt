-- From the last record to the first, the table has the records that were passed.
use Rattle.std.proofs.Common.{◌≡◌, ◌-◌}
use Rattle.tags.specs.Tables.{gathered_from}
use Rattle.tags.proofs.Table.gather.Given as goal

abbrev pub invariant-loop-i : goal.invariant-loop-i
invariant-loop-i l = l.self ≡ gathered_from l.s l.section l.initial.self (l.section.nindex - l.i) l.i
