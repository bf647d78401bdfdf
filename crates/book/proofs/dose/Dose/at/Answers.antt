-- Past the end all numbers are 0.
use Rattle.book.proofs.DoseLaws as laws
use Rattle.book.proofs.dose.Dose.at.Goals as goal

pub returns-then-book-at : goal.returns-then-book-at
returns-then-book-at c = search laws.past
