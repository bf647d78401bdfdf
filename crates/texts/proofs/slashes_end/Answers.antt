use Rattle.std.proofs.Common.{arith}
use Rattle.places.proofs.BehindLaws.{near}
use Rattle.texts.proofs.TextsLaws as laws
use Rattle.texts.proofs.slashes_end.Goals as goal
use Rattle.texts.proofs.slashes_end.Goals.{else-b-eq0-via-then-b-eq0+else-last-ne47, else-b-eq0-via-else-b-eq0}

pub loop-i-init : goal.loop-i-init
loop-i-init c = search laws.slash_begun

pub returns-then-last-ne47 : goal.returns-then-last-ne47
returns-then-last-ne47 c =
    let m = near _ _ c.behind.ensures (omega arith) in
    let q = rw m at c.byte-b.ensures in
    search laws.slash_ends

pub loop-i-preserved : goal.loop-i-preserved
loop-i-preserved c =
    let m = near _ _ c.behind.ensures (omega arith) in
    let q = rw m at c.byte-b.ensures in
    elim c.else-b-eq0.branch [
      | else-b-eq0-via-then-b-eq0+else-last-ne47 w ↦ search laws.slash_zero
      | else-b-eq0-via-else-b-eq0 w ↦ search laws.slash_other
    ]

pub returns : goal.returns
returns c = search laws.slash_spent
