-- Document 01: a book's doses in a lent buffer of bytes, for C.
use Rattle.std.specs.Prelude.{ℕ, ◌*◌, List, [], ◌∷◌, ◌++◌}
use Rattle.std.proofs.lemmas.List.Edits.{sets}
use Rattle.put.specs.Puts.{bytes_of}
use Rattle.book.specs.Doses.{doses}
use Rattle.buffer.specs.Buffer.{numbers_per_dose, numbers_of}

-- four bytes to a number, big-endian
abbrev pub bytes_per_number : ℕ
bytes_per_number = 4

abbrev pub bytes_per_dose : ℕ
bytes_per_dose = bytes_per_number * numbers_per_dose

unfoldable pub number_bytes : List ℕ → List ℕ
number_bytes [] = []
number_bytes (n ∷ rest) = bytes_of n ++ number_bytes rest

-- a buffer with a book's doses at its front, as far as they fit
abbrev pub with_dose_bytes : List ℕ → List ℕ → List ℕ
with_dose_bytes b before = sets before 0 (number_bytes (numbers_of (doses b)))
