-- The doses of a reading are those that the book's records state: doses_stated.
use Prim.Native.Nat.{ℕ}
use mathlib.Core.Path.{◌≡◌, ap, ◌∙◌}
use mathlib.Core.List.{List, ◌++◌}
use lib.ListN.{length, drop}
use Rattle.format.proofs.VerdictLaws.{both_inverted}
use Rattle.book.specs.declared.dose.Dose.{Dose}
use Rattle.book.specs.Kinds.{is_known}
use Rattle.book.specs.Book.{places, records_check}
use Rattle.book.specs.Doses.{doses}
use Rattle.book.proofs.PassLaws.{pass_records}
use Rattle.book.proofs.RowTheorems.{one_way, known_hold, lawful_hold, row_doses, pass_is_row}
use Rattle.buffer.specs.Buffer.{numbers_of}
use Rattle.reading.specs.Editions.{edition_of}
use Rattle.reading.specs.Reading.{book_of, book_part, reading_check}
use Rattle.reading.specs.Buffers.{room_in, cells}
use Rattle.reading.proofs.AnswerLaws.{done, pass_book}
use Rattle.demands.specs.Rows.{DosesStated}
use Rattle.demands.proofs.Demand1.{accepted_writes}
use Rattle.format.specs.Verdicts.{pass}

-- where the reading passes, so do the book's records
pass_row : (edition : ℕ) (s : List ℕ) (room : ℕ) → reading_check edition s room ≡ pass
    → records_check (is_known edition) (book_of s) (places (book_of s)) ≡ pass
unfolding reading_check book_part
pass_row edition s room h =
    let k = both_inverted _ _ (pass_book (edition_of edition) s room (both_inverted _ _ h).1) in
    pass_records (is_known edition) (book_of s) k.0

pub doses_stated : DosesStated
doses_stated form edition s before count h =
    let b = book_of s in
    let room = room_in form before in
    let k = done (reading_check edition s room) (length (doses b)) h in
    let f = (pass_is_row (is_known edition) (known_hold edition) b).0 (pass_row edition s room k.0) in
    let hold = lawful_hold (is_known edition) (known_hold edition) f.0 f.1.bodies f.2 in
    let d = row_doses b f.0 f.1 hold in
    let w = accepted_writes form edition s before count h in
    let stands : List Dose → List ℕ =
    λ ds. cells form (numbers_of ds) ++ drop (length (cells form (numbers_of ds))) before in (
      f.0,
      record {
        is_row = f.1;
        only = λ other p. one_way b other f.0 p f.1;
        counted = w.0 ∙ ap length d;
        buffer = w.1 ∙ ap stands d;
      },
    )
