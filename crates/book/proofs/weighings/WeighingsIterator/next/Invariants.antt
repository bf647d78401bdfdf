-- The places that are left stay the same.
use Rattle.std.proofs.Common.{length, ◌-◌, ◌≡◌}
use Rattle.book.specs.Weighings.{left}
use Rattle.book.proofs.weighings.WeighingsIterator.next.Given as goal

abbrev pub invariant-loop-self : goal.invariant-loop-self
invariant-loop-self l = left l.initial.self ≡ left l.self

abbrev pub decreases-loop-self : goal.decreases-loop-self
decreases-loop-self l = length l.self.book.now - l.self.at
