use Rattle.std.proofs.Common.{rules, arith, ap, ◌∙◌}
use Rattle.std.specs.Prelude.{Some}
use Rattle.entries.proofs.EntryLaws.{product}
use Rattle.elements.proofs.PartLaws as laws
use Rattle.elements.proofs.element_of.Goals as goal

pub overflow_mul-n : goal.overflow_mul-n
overflow_mul-n c = let e = c.in-Some-Bytes.is ∙ ap Some c.in-Some-Bytes.field-0-is in omega (arith, product _ c.args.k c.element_size.ensures e (search rules))

pub returns-in-Some-Bytes : goal.returns-in-Some-Bytes
returns-in-Some-Bytes c = let e = c.in-Some-Bytes.is ∙ ap Some c.in-Some-Bytes.field-0-is in search laws.element_fixed
