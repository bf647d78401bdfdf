use native.Mathlib.Nat.{add-zero}
use Rattle.put.proofs.PutLaws as laws
use borrow.Author.Rules.{rules}
use Rattle.put.proofs.bytes.Goals as goal

pub loop-i-init : goal.loop-i-init
loop-i-init c = (rw add-zero, search rules)

pub loop-i-preserved : goal.loop-i-preserved
loop-i-preserved c = (search laws.copy_turn, search rules)

pub returns : goal.returns
returns c = search laws.copied
