use native.Mathlib.Nat.{sub-zero}
use native.Mathlib.Omega.{arith}
use Rattle.layout.proofs.TurnLaws as laws
use borrow.Author.Rules.{rules}
use Rattle.plan.proofs.store_end.Goals as goal

pub loop-i-init : goal.loop-i-init
loop-i-init c =
    let k = laws.place_first c.args.lent.now.list.now c.args.lent.now.row.now c.count-n.ensures c.requires.0.2 in
    (omega arith, k.0, omega arith, rw k.1 (rw (c.count-n.ensures, sub-zero)))

pub loop-i-preserved : goal.loop-i-preserved
loop-i-preserved c =
    let lent = c.args.lent.now in
    let inv = c.loop-i.invariant in
    let k = laws.place_next lent.list.now lent.row.now c.count-n.result c.loop-i.i inv.0 inv.1 (search rules) c.entry-e.ensures in
    let f = laws.placed lent.list.now lent.row.now c.count-n.result c.loop-i.i inv.0 inv.1 (search rules) c.entry-e.ensures in
    (search rules, k.0, omega arith, rw k.1 (search laws.end_turn))

pub returns : goal.returns
returns c = (search laws.end_spent, search rules)
