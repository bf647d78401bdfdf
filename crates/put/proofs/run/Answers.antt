use Rattle.std.proofs.Common.{arith}
use Rattle.put.proofs.PutLaws as laws
use Rattle.put.proofs.run.Goals as goal

pub returns : goal.returns
returns c =
    laws.run_put c.args.out.now c.args.at c.args.n _ _ c.args.from.now (omega arith) c.bytes.ensures c.saturating_add.ensures
    c.zeros.ensures
