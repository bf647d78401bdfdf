use Rattle.std.proofs.Common.{◌∙◌}
use Rattle.groups.proofs.GroupsLaws.{signature_run}
use Rattle.groups.proofs.signature_pairs.Goals as goal

pub returns : goal.returns
returns c = c.pairs.ensures ∙ signature_run _
