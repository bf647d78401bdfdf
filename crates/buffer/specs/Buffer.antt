-- Document 01: a book's doses in a lent buffer of numbers.
use Rattle.std.specs.Prelude.{ℕ, List, [], ◌∷◌}
use Rattle.std.proofs.lemmas.List.Edits.{sets}
use Rattle.book.specs.declared.dose.Dose.{Dose}
use Rattle.book.specs.Doses.{doses}

-- a dose as numbers: oxide, milligrams, lot
abbrev pub numbers_per_dose : ℕ
numbers_per_dose = 3

unfoldable pub numbers_of : List Dose → List ℕ
numbers_of [] = []
numbers_of (dose ∷ rest) = dose.oxide.0 ∷ dose.milligrams.0 ∷ dose.lot.0 ∷ numbers_of rest

-- a buffer with a book's doses at its front, as far as they fit
abbrev pub with_doses : List ℕ → List ℕ → List ℕ
with_doses b before = sets before 0 (numbers_of (doses b))
