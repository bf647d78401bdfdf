use Rattle.std.proofs.Common.{rules, arith, ap, ◌∙◌}
use Rattle.std.specs.Prelude.{Some}
use Rattle.entries.proofs.EntryLaws.{product}
use Rattle.entries.proofs.data_end.Goals as goal

pub overflow_mul-bytes : goal.overflow_mul-bytes
overflow_mul-bytes c =
    omega (arith, product _ c.args.e.count c.element_size.ensures (c.in_ok-size.was ∙ ap Some c.in-Bytes.is) (search rules))

pub overflow_add-get : goal.overflow_add-get
overflow_add-get c =
    omega (arith, product _ c.args.e.count c.element_size.ensures (c.in_ok-size.was ∙ ap Some c.in-Bytes.is) (search rules))
