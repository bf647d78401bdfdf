use Rattle.std.proofs.Common.{◌∙◌}
use Rattle.groups.proofs.GroupsLaws.{script_run}
use Rattle.groups.proofs.script_pairs.Goals as goal

pub returns : goal.returns
returns c = c.pairs.ensures ∙ script_run _
