use borrow.Author.Rules.{rules}
use Rattle.text.specs.Hex.{hex_of}
use Rattle.text.proofs.HexLaws as laws
use Rattle.text.proofs.hex.Goals as goal

pub loop-i-init : goal.loop-i-init
unfolding hex_of
loop-i-init c = search rules

pub loop-i-preserved : goal.loop-i-preserved
loop-i-preserved c = (search rules, search (laws.turn, rules))

pub returns : goal.returns
returns c = search (laws.ends, rules)
