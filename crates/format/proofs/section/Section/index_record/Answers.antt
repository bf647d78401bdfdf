-- The sum fits. Assumes nothing.
use native.Mathlib.Omega.{arith}
use Rattle.places.proofs.BehindLaws.{near}
use borrow.Author.Rules.{rules}
use Rattle.format.proofs.section.Section.index_record.Goals as goal

pub returns : goal.returns
returns c = let m = near _ _ c.behind.ensures (search rules) in omega (arith, m)
