-- `runs::of_kind` meets its contract: `==` tells kinds apart.
-- Assumes nothing.
use Rattle.std.proofs.Common.{◌∙◌, ap}
use Rattle.runs.specs.Runs.{same_kind, of_kind}
use Rattle.runs.proofs.KindLaws as kinds
use Rattle.runs.proofs.of_kind.Goals as goal

pub returns : goal.returns
unfolding of_kind
returns c = c.eq.ensures ∙ kinds.tested _ _ ∙ ap (λ k. same_kind k c.args.k) c.kind_of.ensures
