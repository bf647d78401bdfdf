use mathlib.Core.Path.{refl}
use native.Mathlib.Omega.{arith}
use borrow.Author.Rules.{rules}
use Rattle.among.proofs.WithLaws as laws
use Rattle.among.proofs.first_by_4.Goals as goal

pub loop-next-init : goal.loop-next-init
loop-next-init c = (search rules, refl)

pub loop-next-preserved-else-tag_in_4 : goal.loop-next-preserved-else-tag_in_4
loop-next-preserved-else-tag_in_4 c = (search rules, search laws.turn_4)

pub loop-next-preserved : goal.loop-next-preserved
loop-next-preserved c = (
  search rules,
  laws.turn_low_4 _ _ _ _ c.loop-next.invariant.1 refl
      (λ m. omega (arith, c.type_inv.s m))
      c.low_in_4.ensures
      c.if-low_in_4.false
      (search rules),
)
