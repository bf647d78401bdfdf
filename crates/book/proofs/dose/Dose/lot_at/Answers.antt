-- A place past the end, and any kind but AA, has no lot.
use Rattle.book.proofs.DoseLaws as laws
use Rattle.book.proofs.dose.Dose.lot_at.Goals as goal
use Rattle.book.proofs.dose.Dose.lot_at.Goals.{else-at-book-via-then-at-book+else-book-at, else-at-book-via-else-at-book}

pub returns : goal.returns
returns c =
    elim c.else-at-book.branch [
      | else-at-book-via-then-at-book+else-book-at w ↦ search laws.no_lot_lem
      | else-at-book-via-else-at-book w ↦ search laws.lot_past
    ]
