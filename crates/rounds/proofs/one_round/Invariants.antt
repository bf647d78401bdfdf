-- The steps that are left, from n on, lead from q to the same registers.
-- Assumes nothing.
use Rattle.std.proofs.Common.{◌≡◌, ◌-◌}
use Rattle.rounds.specs.Steps.{steps}
use Rattle.rounds.proofs.one_round.Given as goal

abbrev pub invariant-loop-n : goal.invariant-loop-n
invariant-loop-n l = steps l.r l.part l.t 16 0 l.initial.q ≡ steps l.r l.part l.t (16 - l.n) l.n l.q
