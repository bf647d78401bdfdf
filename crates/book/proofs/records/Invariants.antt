-- The records that are left decide, and their doses come on top of the count and the sum. Each record takes a byte and
-- weighs less than 2^32, so neither overflows. Assumes nothing.
use Prim.Native.Nat.{◌+◌, ◌-◌, ◌*◌, ◌≤◌}
use mathlib.Core.Path.{◌≡◌}
use lib.ListN.{length}
use Rattle.book.specs.Kinds.{is_known}
use Rattle.book.specs.Book.{places_from, places, records_check}
use Rattle.book.specs.Doses.{doses_of, doses, sum_of}
use Rattle.book.proofs.records.Given as goal

abbrev pub invariant-loop-at : goal.invariant-loop-at
invariant-loop-at l = (records_check (is_known l.edition) l.book (places l.book)
    ≡ records_check (is_known l.edition) l.book (places_from l.book (length l.book - l.at) l.at))
    × (length (doses l.book) ≡ l.count + length (doses_of l.book (places_from l.book (length l.book - l.at) l.at)))
    × (sum_of (doses l.book) ≡ l.sum + sum_of (doses_of l.book (places_from l.book (length l.book - l.at) l.at)))
    × (l.count ≤ l.at)
    × (l.sum ≤ 4294967296 * l.at)

abbrev pub decreases-loop-at : goal.decreases-loop-at
decreases-loop-at l = length l.book - l.at
