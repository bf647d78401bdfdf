-- There is room from i on, and the buffer is to be what it is now, with the doses that are left from i on.
use Rattle.std.proofs.Common.{◌≡◌, ◌<◌, map, length}
use Rattle.std.proofs.lemmas.List.Edits.{sets}
use Rattle.book.specs.Book.{dose_at}
use Rattle.book.specs.Doses.{doses}
use Rattle.book.specs.Weighings.{left}
use Rattle.buffer.specs.Buffer.{numbers_of}
use Rattle.buffer.proofs.write.Given as goal

abbrev pub invariant-loop-at : goal.invariant-loop-at
invariant-loop-at l = (goal.iterator-loop-at).can_next l.at-iterator
    × (goal.iterator-loop-at).is_finite l.at-iterator
    × (l.i < length l.out)
    × (sets l.initial.out 0 (numbers_of (doses l.book))
    ≡ sets l.out l.i (numbers_of (map (dose_at l.book) (left l.at-iterator))))
