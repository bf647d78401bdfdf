use Rattle.std.proofs.Common.{◌∙◌, rules}
use Rattle.runs.proofs.KindLaws as kinds
use Rattle.version.proofs.TextLaws as laws
use Rattle.version.proofs.compare.Goals as goal

pub returns-then-ne : goal.returns-then-ne
returns-then-ne c =
    c.cmp.ensures ∙ kinds.ordered c.first_kind-k.result c.first_kind-l.result
    ∙ laws.text_kinds c.loop-a.invariant c.skip-a.ensures c.skip-b.ensures c.first_kind-k.ensures c.first_kind-l.ensures (search rules)

pub returns-then-eq : goal.returns-then-eq
returns-then-eq c = search (laws.text_end, rules)

pub loop-a-smaller : goal.loop-a-smaller
loop-a-smaller c = search (laws.shorter, rules)

pub loop-a-preserved : goal.loop-a-preserved
loop-a-preserved c = search (laws.run_same, rules)

pub returns-in-Err : goal.returns-in-Err
returns-in-Err c = search (laws.run_differ, rules)
