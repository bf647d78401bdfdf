-- Demand 2, the doses: "The doses are those the book's records state, in order." Proved in proofs/ as doses_stated.
use Rattle.std.specs.Prelude.{ℕ, ◌≡◌, List, ◌++◌, length, drop, Ok}
use Rattle.book.specs.Rows.{BookRecord, IsRow, stated_doses}
use Rattle.buffer.specs.Buffer.{numbers_of}
use Rattle.reading.specs.Reading.{book_of, read_answer}
use Rattle.reading.specs.Buffers.{Form, room_in, cells, left_in}

-- the doses that a row of records states, as they stand in a buffer
abbrev pub stated_cells : Form → List BookRecord → List ℕ
stated_cells form row = cells form (numbers_of (stated_doses row))

-- the book is a row of records, in one way only, the count is that of the doses that its weighed records state, and these
-- stand at the front of the buffer, with nothing behind them changed
pub record StatedBy (form : Form) (book before : List ℕ) (count : ℕ) (after : List ℕ) (row : List BookRecord) : Type 0 where
  pub is_row : IsRow book row
  pub only : (other : List BookRecord) → IsRow book other → other ≡ row
  pub counted : count ≡ length (stated_doses row)
  pub buffer : after ≡ stated_cells form row ++ drop (length (stated_cells form row)) before

abbrev pub DosesStated : Type 0
DosesStated =
    (form : Form) (edition : ℕ) (s before : List ℕ) (count : ℕ) → read_answer edition s (room_in form before) ≡ Ok count
    → (row : List BookRecord) × StatedBy form (book_of s) before count (left_in form edition s before) row
