use Rattle.std.proofs.Common.{◌∙◌, arith}
use Rattle.among.specs.Among.{has_tag}
use Rattle.among.proofs.FirstLaws as first
use Rattle.among.proofs.WithLaws as laws
use Rattle.among.proofs.first_by_1.Goals as goal

pub returns-then-be32-tag : goal.returns-then-be32-tag
returns-then-be32-tag c = search laws.ends

pub loop-i-preserved : goal.loop-i-preserved
loop-i-preserved c = search laws.turn

pub returns : goal.returns
returns c =
    c.max.ensures
    ∙ first.past (has_tag c.args.s.now c.args.tag) c.args.n c.args.from c.loop-i.i c.loop-i.invariant (omega arith) c.loop-i.auto.i-end
