-- The six parts, one behind the other. Assumes nothing.
use Rattle.layout.proofs.LeadLaws as laws
use Rattle.layout.proofs.put_lead.Goals as goal

pub returns : goal.returns
returns c =
    laws.lead_put
    c.args.out.now
    c.args.name.now
    c.number.ensures
    c.number-2.ensures
    c.zeros.ensures
    c.put_name.ensures
    c.number-3.ensures
    c.zeros-2.ensures
