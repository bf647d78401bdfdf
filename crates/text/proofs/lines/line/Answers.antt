use borrow.Author.Rules.{rules}
use Rattle.text.proofs.LineLaws as laws
use Rattle.text.proofs.lines.line.Goals as goal

pub returns-then-out-numbers : goal.returns-then-out-numbers
returns-then-out-numbers c = search (laws.no_room, rules)

pub returns-in_default : goal.returns-in_default
returns-in_default c = laws.empty c.args.numbers.now c.args.out.now c.in_default.ensures.cases

pub loop-n-preserved : goal.loop-n-preserved
loop-n-preserved c =
    let inv = c.loop-n.invariant in
    (search (laws.eleven, rules), search rules, laws.turn c.args.numbers.now c.args.out.now c.loop-n.out c.loop-n.at c.loop-n.n-index inv.2 c.in-Some.front.now c.in-Some.last.now (search rules) inv.0 inv.1 (search rules) (search rules) c.word-at.ensures)

pub returns : goal.returns
returns c =
    let inv = c.loop-n.invariant in
    laws.ended_line c.args.numbers.now c.args.out.now c.loop-n.out c.loop-n.at c.loop-n.n-index inv.2 c.in-Some.front.now c.in-Some.last.now (search rules) inv.0 inv.1 (search rules) (search rules) (search rules) c.word.ensures
