use borrow.Author.Rules.{rules}
use Rattle.text.proofs.DecimalLaws.{stops}
use Rattle.text.proofs.decimal.Goals as goal

pub returns-in_err-digit : goal.returns-in_err-digit
returns-in_err-digit c = search (stops, rules)
