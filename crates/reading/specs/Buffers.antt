-- Document 01: what a reading leaves in the dose buffer, as numbers and, for C, as bytes, four to a number.
use Rattle.std.specs.Prelude.{ℕ, ◌/◌, ◌≡◌, List, length, Ok, Err}
use Rattle.std.proofs.lemmas.List.Edits.{sets}
use Rattle.book.specs.Doses.{doses_in}
use Rattle.buffer.specs.Buffer.{numbers_of, with_doses}
use Rattle.octets.specs.Octets.{number_bytes, with_dose_bytes}
use Rattle.reading.specs.Editions.{Edition}
use Rattle.reading.specs.Reading.{book_of, checks_at, reading_check, read_answer}
use Rattle.format.specs.Verdicts.{Verdict, Answer}

-- a refused reading changes nothing; an accepted one puts its doses at the front
abbrev pub after_as : Verdict → List ℕ → List ℕ → List ℕ
after_as (Ok _) before doses = doses
after_as (Err e) before doses = before

-- the forms of a dose buffer: numbers, and for C bytes, four to a number, big-endian, a remainder unused
pub data Form : Type 0 where
  Numbers : Form
  Bytes : Form

-- for how many numbers a buffer has room
abbrev pub room_in : Form → List ℕ → ℕ
room_in Numbers before = length before
room_in Bytes before = length before / 4

-- what numbers are in a buffer
abbrev pub cells : Form → List ℕ → List ℕ
cells Numbers numbers = numbers
cells Bytes numbers = number_bytes numbers

-- a buffer with a book's doses at its front
abbrev pub put : Form → List ℕ → List ℕ → List ℕ
put Numbers book before = with_doses book before
put Bytes book before = with_dose_bytes book before

-- what a reading leaves in a buffer: at any edition, and at one by its number
unfoldable pub left_at : Form → Edition → List ℕ → List ℕ → List ℕ
left_at form edition s before =
    after_as (checks_at edition s (room_in form before)) before
    (sets before 0 (cells form (numbers_of (doses_in edition.kinds (book_of s)))))

unfoldable pub left_in : Form → ℕ → List ℕ → List ℕ → List ℕ
left_in form edition s before =
    after_as (reading_check edition s (room_in form before)) before (put form (book_of s) before)

-- the reading into a buffer
pub record ReadInto (form : Form) (edition : ℕ) (s before : List ℕ) (answer : Answer) (after : List ℕ) : Type 0 where
  pub answered : answer ≡ read_answer edition s (room_in form before)
  pub buffer : after ≡ left_in form edition s before

abbrev pub Read : ℕ → List ℕ → List ℕ → Answer → List ℕ → Type 0
Read = ReadInto Numbers

abbrev pub ReadBytes : ℕ → List ℕ → List ℕ → Answer → List ℕ → Type 0
ReadBytes = ReadInto Bytes

-- the buffer of bytes by itself
abbrev pub numbers_in : List ℕ → ℕ
numbers_in = room_in Bytes

abbrev pub bytes_after : ℕ → List ℕ → List ℕ → List ℕ
bytes_after = left_in Bytes
