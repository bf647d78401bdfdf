-- Each number that is left is below 2^32, and there are few.
use Rattle.std.proofs.Common.{ℕ, ◌≡◌, ◌≤◌, ◌<◌, ◌+◌, ◌*◌, length}
use lib.ListN.{get_or}
use Rattle.std.specs.Slice.Iter.{chunks_exact_rest, chunks_exact_size}
use Rattle.doses.proofs.total.Given as goal

abbrev pub invariant-loop-dose : goal.invariant-loop-dose
invariant-loop-dose l =
    let left = chunks_exact_rest l.dose-iterator in
    (chunks_exact_size l.dose-iterator ≡ 3) × (l.sum + 4294967296 * length left ≤ 4294967296 * 8192)
    × ((i : ℕ) → get_or left i 0 < 4294967296)
