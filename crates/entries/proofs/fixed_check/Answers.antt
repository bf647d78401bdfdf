use Rattle.std.proofs.Common.{rules, arith, sym, refl}
use Rattle.entries.proofs.EntryLaws.{product}
use Rattle.entries.proofs.TypeLaws.{bytes_small}
use Rattle.entries.proofs.fixed_check.Goals as goal

pub nonzero_rem-offset : goal.nonzero_rem-offset
nonzero_rem-offset c = omega (arith, bytes_small c.args.e.ty c.args.n (sym c.requires))

pub overflow_mul-bytes : goal.overflow_mul-bytes
overflow_mul-bytes c = omega (arith, product c.args.e.ty c.args.e.count c.requires refl (search rules))

pub overflow_add-end : goal.overflow_add-end
overflow_add-end c = omega (arith, product c.args.e.ty c.args.e.count c.requires refl (search rules))
