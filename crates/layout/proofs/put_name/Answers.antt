-- The name, and zero bytes behind it. Assumes nothing.
use Rattle.layout.proofs.LeadLaws as laws
use borrow.Author.Rules.{rules}
use Rattle.layout.proofs.put_name.Goals as goal

pub overflow_sub-shown : goal.overflow_sub-shown
overflow_sub-shown c = search (rules, laws.shown_short)

pub returns : goal.returns
returns c = search laws.name_put
