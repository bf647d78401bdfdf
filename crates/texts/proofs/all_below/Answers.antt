-- A place below 2^40 has room for 2^32 numbers.
use Rattle.std.proofs.Common.{arith}
use Rattle.places.proofs.BehindLaws.{near}
use Rattle.texts.proofs.TextsLaws as laws
use Rattle.texts.proofs.all_below.Goals as goal

pub loop-i-init : goal.loop-i-init
loop-i-init c = search laws.below_begun

pub returns-then-limit-number : goal.returns-then-limit-number
returns-then-limit-number c =
    let m = near _ _ c.behind.ensures (omega arith) in
    let q = rw m at c.number.ensures in
    search laws.below_ends

pub loop-i-preserved : goal.loop-i-preserved
loop-i-preserved c =
    let m = near _ _ c.behind.ensures (omega arith) in
    let q = rw m at c.number.ensures in
    search laws.below_turn

pub returns : goal.returns
returns c = search laws.below_spent
