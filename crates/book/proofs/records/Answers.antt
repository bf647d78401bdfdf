use lib.ListN.{length}
use native.Mathlib.Omega.{arith}
use Rattle.std.proofs.Common.{◌∙◌, rules}
use Rattle.format.proofs.VerdictLaws.{handed}
use Rattle.book.specs.Doses.{sum_of}
use Rattle.book.proofs.PlaceLaws.{end_of}
use Rattle.book.proofs.BareLaws as bare
use Rattle.book.proofs.RecordsLaws as laws
use Rattle.book.proofs.records.Goals as goal

pub loop-at-smaller-then-is_bare : goal.loop-at-smaller-then-is_bare
loop-at-smaller-then-is_bare c = omega (arith, bare.behind _ _ _ c.past_bare-at.ensures)

pub loop-at-preserved-then-is_bare : goal.loop-at-preserved-then-is_bare
loop-at-preserved-then-is_bare c =
    let on = bare.behind _ _ _ c.past_bare-at.ensures in
    (search bare.row_turn, search (bare.row_skipped length), search (bare.row_skipped sum_of), omega arith, omega arith)

pub returns-in_err-found : goal.returns-in_err-found
returns-in_err-found c = let refused = c.in_err-found.ensures in handed c.from_residual.ensures ∙ search laws.ends

pub loop-at-preserved-in-Some : goal.loop-at-preserved-in-Some
loop-at-preserved-in-Some c =
    let passed = c.in_ok-found.ensures in
    (search (laws.turn, end_of), search (laws.counted, end_of), search (laws.summed, end_of), search rules, search rules)

pub loop-at-preserved : goal.loop-at-preserved
loop-at-preserved c =
    let passed = c.in_ok-found.ensures in
    (search (laws.turn, end_of), search (laws.skipped length, end_of), search (laws.skipped sum_of, end_of), search rules, search rules)

pub returns : goal.returns
returns c = search laws.spent
