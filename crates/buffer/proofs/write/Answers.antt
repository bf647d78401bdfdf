use Rattle.std.proofs.Common.{ap, ◌∙◌, arith, refl}
use Rattle.std.proofs.lemmas.Bool.Decides.{nat_tests}
use Rattle.book.specs.Doses.{doses}
use Rattle.book.specs.Weighings.{left}
use Rattle.buffer.specs.Buffer.{numbers_per_dose, numbers_of}
use Rattle.buffer.proofs.BufferLaws as laws
use Rattle.buffer.proofs.write.Goals as goal

pub returns-then-is_empty : goal.returns-then-is_empty
returns-then-is_empty c = laws.full c.args.out.now (numbers_of (doses c.args.book.now)) 0 refl (grind (arith, nat_tests))

pub loop-at-init : goal.loop-at-init
loop-at-init c =
    let e = ap left c.into_iter-at-iterator.ensures.into_iter_gives ∙ c.of-at-items.ensures in
    (tt, tt, grind (arith, nat_tests), laws.begun numbers_of c.args.book.now _ e)

pub returns-then-out-i : goal.returns-then-out-i
returns-then-out-i c =
    let more = c.in-Some.ensures.steps in
    search (laws.last numbers_of c.args.book.now numbers_per_dose laws.numbers_more, laws.of_dose numbers_of)

pub loop-at-preserved : goal.loop-at-preserved
loop-at-preserved c =
    let more = c.in-Some.ensures.steps in
    (tt, tt, omega arith, search (laws.turn numbers_of c.args.book.now numbers_per_dose laws.numbers_more, laws.of_dose numbers_of))

pub returns : goal.returns
returns c = let over = c.in-None.ensures.steps in search (laws.done numbers_of c.args.book.now laws.numbers_none)
