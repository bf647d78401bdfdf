-- Document 01, "Numbers the station shows": the reading, checks 1 to 24 in order, with 27 between 18 and 19 (request 3)
-- and 28 between the two structures (request 5), for any edition (request 7).
use Rattle.std.specs.Prelude.{ℕ, ◌*◌, List, cond, length, eqb, leb, Ok, Err}
use Rattle.be.specs.Numbers.{be32_at}
use Rattle.format.specs.declared.section.Section.{Section}
use Rattle.format.specs.Verdicts.{check, both, Verdict, Answer, pass}
use Rattle.package.specs.Package.{sound_check, signature_at, header_at}
use Rattle.lookups.specs.Within.{bytes_in}
use Rattle.catalogue.specs.Words.{int32, bin}
use Rattle.rules.specs.Rules.{rules_check}
use Rattle.verify.specs.Digests.{digest_check}
use Rattle.book.specs.Kinds.{Kinds, knows, last_edition}
use Rattle.book.specs.Book.{book_tag, book_check}
use Rattle.book.specs.Doses.{doses_in, doses, sum_of}
use Rattle.buffer.specs.Buffer.{numbers_per_dose}
use Rattle.reading.specs.Editions.{Edition, edition_of, has_batch, batch_tag}

-- 1 | edition not 1 to 3 | 0
unfoldable pub edition_check : ℕ → Verdict
edition_check edition =
    check (leb 1 edition) 1 0
    (check (leb edition last_edition) 1 0
    pass)

-- the book: what a look-up in the header shows for 20001, bin
abbrev pub book_in : List ℕ → Section → List ℕ
book_in s header = bytes_in s header book_tag bin

abbrev pub book_of : List ℕ → List ℕ
book_of s = book_in s (header_at s)

-- the batch weight: the number that it shows for 20002, int32
abbrev pub weight_in : List ℕ → Section → ℕ
weight_in s header = be32_at (bytes_in s header batch_tag int32) 0

-- 23 | sum isn't 20002's (where that has a line) | 20002
unfoldable pub sum_check : Edition → List ℕ → Section → ℕ → Verdict
sum_check edition s header sum =
    cond (has_batch edition) (check (eqb (weight_in s header) sum) 23 batch_tag pass) pass

-- 24 | dose buffer under 3 numbers per dose | numbers needed
abbrev pub needed : Kinds → List ℕ → ℕ
needed kinds book = numbers_per_dose * length (doses_in kinds book)

unfoldable pub room_check : Kinds → ℕ → List ℕ → Verdict
room_check kinds room book = check (leb (needed kinds book) room) 24 (needed kinds book) pass

-- 19 to 24 for a book
unfoldable pub book_part : Edition → List ℕ → Section → ℕ → List ℕ → Verdict
book_part edition s header room book =
    both (book_check (knows edition.kinds) book)
    (both (sum_check edition s header (sum_of (doses_in edition.kinds book)))
    (room_check edition.kinds room book))

-- 14 to 18, 27 and 19 to 24 for a package's two structures and a book
unfoldable pub opened_check : Edition → List ℕ → Section → Section → ℕ → List ℕ → Verdict
opened_check edition s signature header room book =
    both (rules_check edition.signature edition.header s (length s) signature header)
    (both (digest_check s signature header) (book_part edition s header room book))

-- 2 to 24, 27 and 28, at an edition
unfoldable pub checks_at : Edition → List ℕ → ℕ → Verdict
checks_at edition s room = both (sound_check s) (opened_check edition s (signature_at s) (header_at s) room (book_of s))

-- 1 to 24, 27 and 28, with room for so many numbers
unfoldable pub reading_check : ℕ → List ℕ → ℕ → Verdict
reading_check edition s room = both (edition_check edition) (checks_at (edition_of edition) s room)

-- success is 0 with the dose count as its place
abbrev pub answer_as : Verdict → ℕ → Answer
answer_as (Ok _) count = Ok count
answer_as (Err e) count = Err e

-- the answer at an edition: any, and one by its number
abbrev pub answer_at : Edition → List ℕ → ℕ → Answer
answer_at edition s room = answer_as (checks_at edition s room) (length (doses_in edition.kinds (book_of s)))

abbrev pub read_answer : ℕ → List ℕ → ℕ → Answer
read_answer edition s room = answer_as (reading_check edition s room) (length (doses (book_of s)))
