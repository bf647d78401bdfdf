-- Each field is read at its place. Assumes nothing.
use Rattle.format.proofs.LeadLaws.{lead_read}
use Rattle.format.proofs.lead.Lead.of.Goals as goal

pub returns : goal.returns
returns c = search lead_read
