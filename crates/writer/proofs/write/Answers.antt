-- What was decided, and then the package. Assumes nothing.
use Rattle.format.proofs.VerdictLaws.{handed}
use Rattle.plan.proofs.PlanLaws as plan
use Rattle.writer.proofs.WriteLaws as laws
use Rattle.writer.proofs.write.Goals as goal

pub returns-in_err-sizes : goal.returns-in_err-sizes
returns-in_err-sizes c =
    let w = c.in_err-sizes.was in let h = handed c.from_residual.ensures in rw h (search laws.refuses)

pub put_package-requires : goal.put_package-requires
put_package-requires c =
    let s = c.args in
    plan.put_ready
    s.name.now
    s.signature.now
    s.signature_data.now
    s.header.now
    s.header_data.now
    _
    c.decide.ensures
    c.in_ok-sizes.was

pub returns : goal.returns
returns c = let w = c.in_ok-sizes.was in search laws.wrote
