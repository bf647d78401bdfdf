-- `version::skip` meets its contract: it passes over the separators that the chain gives.
-- Assumes nothing.
use Rattle.std.proofs.Common.{◌∙◌, rules, tests}
use Rattle.std.proofs.lemmas.Iterator.{YieldsList-from_slice}
use Rattle.std.proofs.lemmas.Iterator.Consumers.{count_from_yields_List, YieldsList-at}
use Rattle.std.proofs.lemmas.Iterator.Search.{YieldsList-from_take_while}
use Rattle.std.proofs.lemmas.List.Folds.{length-prefix_len}
use Rattle.runs.specs.Runs.{separator, of_kind}
use Rattle.version.proofs.TextLaws.{skips}
use Rattle.version.proofs.skip.Goals as goal

pub returns : goal.returns
returns c =
    skips c.args.s.now
    (count_from_yields_List c.take_while.result _ c.count-n.ensures.ran
    (YieldsList-from_take_while _ (of_kind separator) (YieldsList-at c.take_while.ensures.source (YieldsList-from_slice c.args.s.now cc)) c.take_while.ensures.closure c.take_while.ensures.done (λ x b q k. search (rules, tests)))
    ∙ length-prefix_len (of_kind separator) c.args.s.now)
