use mathlib.Core.Path.{refl}
use Rattle.book.proofs.BareLaws as laws
use Rattle.book.proofs.past_bare.Goals as goal

pub loop-i-init : goal.loop-i-init
loop-i-init c = refl

pub returns-then-not-is_bare : goal.returns-then-not-is_bare
returns-then-not-is_bare c = search laws.stop

pub loop-i-preserved : goal.loop-i-preserved
loop-i-preserved c = search laws.on

pub returns : goal.returns
returns c = search (laws.out, c.loop-i.auto.i-end)
