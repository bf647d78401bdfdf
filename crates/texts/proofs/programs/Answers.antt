use Rattle.texts.proofs.TextsLaws as texts
use Rattle.format.proofs.RunLaws as laws
use Rattle.texts.proofs.programs.Goals as goal

pub returns-then-not-text_is : goal.returns-then-not-text_is
returns-then-not-text_is c = search texts.program_ends

pub loop-tag-preserved : goal.loop-tag-preserved
loop-tag-preserved c = search texts.program_turn

pub returns : goal.returns
returns c = search laws.spent
