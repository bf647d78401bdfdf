-- The bytes that are left decide.
use Rattle.gap.proofs.GapLaws.{Left}
use Rattle.gap.proofs.check.Given as goal

abbrev pub invariant-loop : goal.invariant-loop
invariant-loop l = Left l.s l.size l.initial.place.0 l.counter l.place.0
