-- An accepted reading's doses are in the buffer. Assumes nothing.
use mathlib.Core.Path.{sym}
use lib.Seq.{length-take-le}
use native.Mathlib.Omega.{arith}
use Rattle.reading.proofs.AnswerLaws.{answer_room}
use Rattle.doses.proofs.put_package.Goals as goal

pub slice_bounds-doses-end : goal.slice_bounds-doses-end
slice_bounds-doses-end g c =
    let a = answer_room _ _ _ c.read.ensures.answered c.in-Ok.is in
    omega (arith, c.read.auto.doses)

pub slice_bounds-put_book-end : goal.slice_bounds-put_book-end
slice_bounds-put_book-end g c =
    let a = answer_room _ _ _ c.read.ensures.answered c.in-Ok.is in
    sym (length-take-le _ _ (omega (arith, c.read.auto.doses)))
