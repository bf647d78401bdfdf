use Rattle.strings.proofs.StringLaws as laws
use Rattle.strings.proofs.strings_end.Goals as goal

pub returns-then-stop-zero : goal.returns-then-stop-zero
returns-then-stop-zero c = search laws.ends_empty

pub loop-done-preserved : goal.loop-done-preserved
loop-done-preserved c = search laws.string_turn

pub returns : goal.returns
returns c = search laws.strings_done
