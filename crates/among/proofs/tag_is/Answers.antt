-- By the last byte, then by all four. Assumes nothing.
use Prim.Native.Nat.{◌+◌}
use native.Mathlib.Omega.{arith}
use Rattle.among.proofs.AmongLaws as laws
use Rattle.among.proofs.tag_is.Goals as goal

pub returns-then-s-at : goal.returns-then-s-at
returns-then-s-at c =
    laws.differs _ c.args.at _ c.requires.1
    (omega (arith, c.type_inv.s (c.args.at + 3)))
    c.if-s-at.true

pub returns : goal.returns
returns c = search laws.joined
