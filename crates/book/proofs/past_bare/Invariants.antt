-- The place is the first from i on. Assumes nothing.
use Prim.Native.Nat.{◌-◌}
use mathlib.Core.Path.{◌≡◌}
use lib.ListN.{length}
use Rattle.book.specs.Book.{past_bare}
use Rattle.book.proofs.past_bare.Given as goal

abbrev pub invariant-loop-i : goal.invariant-loop-i
invariant-loop-i l = past_bare l.book (length l.book - l.at) l.at ≡ past_bare l.book (length l.book - l.i) l.i
