-- `runs::longer` meets its contract: behind the digits that both have, the one that goes on has more.
-- Assumes nothing.
use Rattle.std.proofs.Common.{ℕ, ◌∙◌, ap₂, ◌&&◌, rules, tests}
use Rattle.std.proofs.lemmas.Iterator.{YieldsList-from_slice, YieldsList-from_zip}
use Rattle.std.proofs.lemmas.Iterator.Consumers.{count_from_yields_List, YieldsList-at}
use Rattle.std.proofs.lemmas.Iterator.Search.{YieldsList-from_take_while}
use Rattle.std.specs.Ordering.{bool_cmp}
use Rattle.runs.specs.Runs.{digit, of_kind}
use Rattle.runs.proofs.MetLaws.{zip_front, more_digits}
use Rattle.runs.proofs.longer.Goals as goal

pub returns : goal.returns
returns c =
    let e = count_from_yields_List c.take_while.result _ c.count-n.ensures.ran
    (YieldsList-from_take_while _ (λ (p : ℕ × ℕ). of_kind digit p.0 && of_kind digit p.1)
    (YieldsList-at c.take_while.ensures.source
    (YieldsList-from_zip (YieldsList-from_slice c.args.a.now (cc)) (YieldsList-from_slice c.args.b.now (cc))))
    c.take_while.ensures.closure c.take_while.ensures.done (λ x b q k. search (rules, tests)))
    ∙ zip_front (λ a b. of_kind digit a && of_kind digit b) c.args.a.now c.args.b.now in
    c.cmp.ensures ∙ ap₂ bool_cmp c.is_some-left.ensures c.is_some-right.ensures
    ∙ more_digits c.args.a.now c.args.b.now e c.byte_of.ensures c.byte_of-2.ensures
