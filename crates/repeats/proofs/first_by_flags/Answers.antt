use Rattle.std.proofs.Common.{rules, arith}
use Rattle.flags.proofs.FlagLaws.{still_64}
use Rattle.among.proofs.FirstLaws as first
use Rattle.repeats.proofs.SeenLaws as seen
use Rattle.repeats.proofs.first_by_flags.Goals as goal

pub loop-i-init : goal.loop-i-init
loop-i-init c = (search seen.none_over, search seen.none_marked, search rules, search first.begun)

pub returns-then-is_repeated : goal.returns-then-is_repeated
returns-then-is_repeated c = search seen.ends

pub loop-i-preserved : goal.loop-i-preserved
loop-i-preserved c = (seen.one_higher _ _ c.be32-tag.ensures c.loop-i.invariant.0 (omega arith) (omega arith), search seen.one_marked, search still_64, search seen.turn)

pub returns : goal.returns
returns c = search first.spent
