-- Size × count fits. Assumes nothing.
use Rattle.std.proofs.Common.{Some, ap, arith, rules}
use Rattle.entries.proofs.EntryLaws.{product}
use Rattle.reasons.proofs.data_exact.Goals as goal

pub overflow_mul-result : goal.overflow_mul-result
overflow_mul-result c = omega (arith, product _ c.args.e.count c.requires (ap Some c.in-Bytes.is) (search rules))
