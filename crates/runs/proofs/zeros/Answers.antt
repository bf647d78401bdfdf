-- `runs::zeros` meets its contract: it counts the bytes that the chain gives.
-- Assumes nothing.
use Rattle.std.proofs.Common.{◌∙◌, arith, rules, tests}
use Rattle.std.proofs.lemmas.Iterator.{YieldsList-from_slice}
use Rattle.std.proofs.lemmas.Iterator.Consumers.{count_from_yields_List, YieldsList-at}
use Rattle.std.proofs.lemmas.Iterator.Search.{YieldsList-from_take_while}
use Rattle.std.proofs.lemmas.List.Folds.{length-prefix_len}
use Rattle.std.proofs.lemmas.List.Sums.{prefix_len-le-length}
use Rattle.runs.specs.Runs.{is_zero}
use Rattle.runs.proofs.zeros.Goals as goal

pub returns : goal.returns
unfolding is_zero
returns c =
    let e = count_from_yields_List c.take_while.result _ c.count.ensures.ran
    (YieldsList-from_take_while _ is_zero (YieldsList-at c.take_while.ensures.source (YieldsList-from_slice c.args.s.now cc)) c.take_while.ensures.closure c.take_while.ensures.done (λ x b q k. search (rules, tests)))
    ∙ length-prefix_len is_zero c.args.s.now in
    (e, omega (arith, e, prefix_len-le-length is_zero c.args.s.now))
