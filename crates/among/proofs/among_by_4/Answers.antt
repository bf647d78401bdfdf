use mathlib.Core.Path.{refl}
use native.Mathlib.Omega.{arith}
use borrow.Author.Rules.{rules}
use Rattle.among.proofs.AmongLaws as laws
use Rattle.among.proofs.among_by_4.Goals as goal

pub loop-k-init : goal.loop-k-init
loop-k-init c = (search rules, refl)

pub returns-then-tag_in_4 : goal.returns-then-tag_in_4
returns-then-tag_in_4 c = search laws.ends_4

pub loop-k-preserved-else-tag_in_4 : goal.loop-k-preserved-else-tag_in_4
loop-k-preserved-else-tag_in_4 c = (search rules, search laws.turn_4)

pub loop-k-preserved : goal.loop-k-preserved
loop-k-preserved c = (
  search rules,
  laws.turn_low_4 _ _ _ c.loop-k.invariant.1 refl
      (λ n. omega (arith, c.type_inv.s n))
      c.low_in_4.ensures
      c.if-low_in_4.false
      (search rules),
)

pub returns : goal.returns
returns c = search laws.last_4
