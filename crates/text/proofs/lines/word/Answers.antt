-- The digits and the byte behind them take at most 11 bytes, which the buffer has.
-- Assumes nothing.
use Rattle.text.proofs.LineLaws as laws
use Rattle.text.proofs.lines.word.Goals as goal

pub digits-last-requires : goal.digits-last-requires
digits-last-requires c = search laws.word_fits

pub returns : goal.returns
returns c = search laws.ended
