use Rattle.std.proofs.Common.{refl}
use Rattle.put.proofs.PutLaws as laws
use Rattle.put.proofs.zeros.Goals as goal

pub returns : goal.returns
returns c =
    laws.zeros_put c.args.out.now c.args.at c.min-at.result _ c.min-at.ensures c.args.n c.min-n.result
    (c.fill.ensures.after (λ y h. h)) c.min-n.ensures refl
