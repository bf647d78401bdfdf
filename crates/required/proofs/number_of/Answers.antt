use mathlib.Core.Path.{refl}
use native.Mathlib.Nat.{sub-zero}
use Rattle.strings.specs.Strings.{strings_from}
use Rattle.required.proofs.VersionLaws as laws
use Rattle.required.proofs.number_of.Goals as goal

pub loop-k-init : goal.loop-k-init
unfolding strings_from
loop-k-init c = (refl, simp sub-zero)

pub overflow_sub-extent : goal.overflow_sub-extent
overflow_sub-extent c = search laws.some

pub returns-then-same : goal.returns-then-same
returns-then-same c = search laws.ends

pub loop-k-preserved : goal.loop-k-preserved
loop-k-preserved c = (search laws.turn_at, search laws.turn)

pub returns : goal.returns
returns c = search laws.spent
