use Rattle.std.proofs.Common.{ap, ◌∙◌, length, arith, rules}
use Rattle.book.proofs.WeighingLaws as laws
use Rattle.book.proofs.weighings.WeighingsIterator.next.Goals as goal

pub returns-then-is_weighed-clause-steps : goal.returns-then-is_weighed-clause-steps
returns-then-is_weighed-clause-steps c = c.loop-self.invariant ∙ search laws.weighed_first

pub returns-then-is_weighed-clause-goes : goal.returns-then-is_weighed-clause-goes
returns-then-is_weighed-clause-goes c =
    let k = laws.weighed_first _ _ c.loop-self-test.true c.body_size.ensures c.is_weighed.ensures c.if-is_weighed.true in
    let n = ap length (c.loop-self.invariant ∙ k) in
    record { on = λ f. (search rules, search rules, omega (arith, n)); keeps = search rules; rests = search rules }

pub loop-self-preserved : goal.loop-self-preserved
loop-self-preserved c = c.loop-self.invariant ∙ search laws.remark_first

pub returns-clause-steps : goal.returns-clause-steps
returns-clause-steps c = let none = laws.none_left _ _ c.loop-self-test.false in (c.loop-self.invariant ∙ none, none)
