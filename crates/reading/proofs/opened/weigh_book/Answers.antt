use Rattle.format.proofs.VerdictLaws.{handed}
use Rattle.reading.proofs.OpenedLaws as laws
use Rattle.reading.proofs.opened.weigh_book.Goals as goal

pub returns-in_err-weighed : goal.returns-in_err-weighed
returns-in_err-weighed c = let w = c.in_err-weighed.was in let h = handed c.from_residual.ensures in search laws.book_refused

pub returns-in_err-sum_check : goal.returns-in_err-sum_check
returns-in_err-sum_check c =
    let w = c.in_ok-weighed.was in let v = c.in_err-sum_check.was in let h = handed c.from_residual-in_err-sum_check.ensures in search laws.sum_refused

pub overflow_mul-needed : goal.overflow_mul-needed
overflow_mul-needed c = let w = c.in_ok-weighed.was in search laws.needed_fits

pub returns-then-room-needed : goal.returns-then-room-needed
returns-then-room-needed c =
    let w = c.in_ok-weighed.was in let v = c.in_ok-sum_check.was in search laws.room_refused

pub returns : goal.returns
returns c = let w = c.in_ok-weighed.was in let v = c.in_ok-sum_check.was in search laws.doses_accepted
