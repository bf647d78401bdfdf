use Rattle.index.proofs.LookupLaws as laws
use native.Mathlib.Nat.{sub-zero}
use borrow.Author.Rules.{rules}
use Rattle.index.proofs.find.Goals as goal

pub loop-next-init : goal.loop-next-init
loop-next-init c = (search rules, simp sub-zero)

pub returns-then-n-i : goal.returns-then-n-i
returns-then-n-i c = search laws.absent

pub returns-then-e-ty : goal.returns-then-e-ty
returns-then-e-ty c = search laws.ends

pub loop-next-smaller : goal.loop-next-smaller
loop-next-smaller c = search laws.fewer

pub loop-next-preserved : goal.loop-next-preserved
loop-next-preserved c = (search rules, search laws.other_type)

pub returns : goal.returns
returns c = search laws.spent
