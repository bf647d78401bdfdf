use Rattle.std.proofs.Common.{List, ap, ◌∙◌, arith, refl}
use Rattle.std.proofs.lemmas.Bool.Decides.{nat_tests}
use Rattle.book.specs.declared.dose.Dose.{Dose}
use Rattle.book.specs.Doses.{doses}
use Rattle.book.specs.Weighings.{left}
use Rattle.buffer.specs.Buffer.{numbers_of}
use Rattle.octets.specs.Octets.{bytes_per_dose, number_bytes}
use Rattle.buffer.proofs.BufferLaws as walk
use Rattle.octets.proofs.OctetLaws as laws
use Rattle.octets.proofs.write_bytes.Goals as goal

pub returns-then-is_empty : goal.returns-then-is_empty
returns-then-is_empty c =
    walk.full c.args.out.now (number_bytes (numbers_of (doses c.args.book.now))) 0 refl (grind (arith, nat_tests))

pub loop-at-init : goal.loop-at-init
loop-at-init c =
    let e = ap left c.into_iter-at-iterator.ensures.into_iter_gives ∙ c.of-at-items.ensures in
    (tt, tt, grind (arith, nat_tests), walk.begun (λ (ds : List Dose). number_bytes (numbers_of ds)) c.args.book.now _ e)

pub returns-then-out-i : goal.returns-then-out-i
returns-then-out-i c =
    let more = c.in-Some.ensures.steps in
    search (walk.last (λ (ds : List Dose). number_bytes (numbers_of ds)) c.args.book.now bytes_per_dose laws.bytes_more)

pub loop-at-preserved : goal.loop-at-preserved
loop-at-preserved c =
    let more = c.in-Some.ensures.steps in (
      tt,
      tt,
      omega arith,
      search (walk.turn (λ (ds : List Dose). number_bytes (numbers_of ds)) c.args.book.now bytes_per_dose laws.bytes_more),
    )

pub returns : goal.returns
returns c =
    let over = c.in-None.ensures.steps in
    search (walk.done (λ (ds : List Dose). number_bytes (numbers_of ds)) c.args.book.now laws.bytes_none)
