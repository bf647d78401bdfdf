-- `runs::digits` meets its contract: behind the zeros in front and the bytes in common, the higher is newer.
-- Assumes nothing.
use Rattle.runs.proofs.MetLaws as laws
use Rattle.runs.proofs.digits.Goals as goal

pub returns-in-Equal : goal.returns-in-Equal
returns-in-Equal c =
    laws.digits_same _ _ c.zeros-i.ensures c.zeros-j.ensures c.same_front-n.ensures c.higher.ensures c.in-Equal.is

pub returns-in_default : goal.returns-in_default
returns-in_default c =
    laws.digits_unlike _ _ c.zeros-i.ensures c.zeros-j.ensures c.same_front-n.ensures c.higher.ensures c.in_default.not-Equal
