-- What is decided before anything is written: the dose count, or the refusal.
use Rattle.std.specs.Prelude.{ℕ, List, length, Result, Ok, Err}
use Rattle.format.specs.Verdicts.{both, Verdict, Answer}
use Rattle.package.specs.declared.Opened.{Opened}
use Rattle.package.specs.Package.{sound_check, signature_at, header_at, opened_as}
use Rattle.book.specs.Doses.{doses}
use Rattle.reading.specs.Reading.{edition_check, book_of, reading_check}
use Rattle.format.specs.declared.verdict.Refusal.{Refusal}

-- a package that passed 1 to 13 and 28
unfoldable pub opened_at : ℕ → List ℕ → Result Opened Refusal
opened_at edition s = opened_as (both (edition_check edition) (sound_check s)) (signature_at s) (header_at s)

abbrev pub weighing_as : Verdict → ℕ → Answer
weighing_as (Ok _) count = Ok count
weighing_as (Err e) count = Err e

-- 1 to 24, 27 and 28
unfoldable pub decided : ℕ → List ℕ → ℕ → Answer
decided edition s room = weighing_as (reading_check edition s room) (length (doses (book_of s)))
