-- All sixteen bytes fit, and the newline stays behind them.
-- Assumes nothing.
use borrow.Author.Rules.{rules}
use Rattle.text.proofs.HexLaws.{line_of_sixteen}
use Rattle.text.proofs.hex_line.Goals as goal

pub returns : goal.returns
returns c = search (line_of_sixteen, rules)
