use native.Mathlib.Omega.{arith}
use Rattle.text.proofs.LineLaws as laws
use Rattle.text.proofs.lines.+digits.Goals as goal

pub bounds-out-at : goal.bounds-out-at
bounds-out-at t c = search laws.one_place

pub returns-then-n-lt10 : goal.returns-then-n-lt10
returns-then-n-lt10 t c = search laws.one_digit

pub digits-last-requires : goal.digits-last-requires
digits-last-requires t c = (omega arith, search laws.last_fits)

pub returns : goal.returns
returns t c = search laws.last_digit
