-- The blocks of what is left lead from q to the same registers.
-- Assumes nothing.
use Rattle.std.proofs.Common.{◌≡◌, ◌/◌, length}
use Rattle.std.specs.Slice.Iter.{chunks_exact_rest, chunks_exact_size}
use Rattle.rounds.specs.Rounds.{blocks}
use Rattle.rounds.proofs.run.Given as goal

abbrev pub invariant-loop-part : goal.invariant-loop-part
invariant-loop-part l =
    let left = chunks_exact_rest l.part-iterator in
    (chunks_exact_size l.part-iterator ≡ 64) × (blocks l.s l.t (length l.s / 64) 0 l.initial.q ≡ blocks left l.t (length left / 64) 0 l.q)
