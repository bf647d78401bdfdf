-- By the highest tag, then by the flag, then by the search. Assumes nothing.
use Rattle.std.proofs.Common.{◌∙◌}
use Rattle.repeats.proofs.SeenLaws as laws
use Rattle.repeats.proofs.is_repeated.Goals as goal

pub returns-then-highest-tag : goal.returns-then-highest-tag
returns-then-highest-tag c = search laws.above

pub returns-else-is_set : goal.returns-else-is_set
returns-else-is_set c = c.if-is_set.false ∙ search laws.unmarked
