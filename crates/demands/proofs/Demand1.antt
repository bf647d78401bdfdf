-- Demand 1: refused_keeps and accepted_writes. What is put into a buffer, in either form: as_cells.
use Prim.Native.Nat.{ℕ, ◌+◌, ◌≤◌}
use mathlib.Core.Path.{◌≡◌, refl, ◌∙◌}
use mathlib.Core.List.{List, ◌++◌}
use lib.ListN.{length, drop}
use lib.Seq.{sets, sets-eq}
use native.Mathlib.Omega.{arith}
use Rattle.book.specs.Doses.{doses}
use Rattle.buffer.specs.Buffer.{numbers_of}
use Rattle.buffer.proofs.BufferLaws.{numbers_room}
use Rattle.octets.proofs.OctetLaws.{bytes_room}
use Rattle.reading.specs.Reading.{book_of, reading_check}
use Rattle.reading.specs.Buffers.{Form, Numbers, Bytes, room_in, cells, put, left_in}
use Rattle.demands.specs.Demands.{dose_cells, RefusedKeeps, AcceptedWrites}
use Rattle.reading.proofs.AnswerLaws.{done, refused, pass_room}

pub refused_keeps : RefusedKeeps
unfolding left_in
refused_keeps form edition s before number place h =
    rw (refused (reading_check edition s (room_in form before)) (length (doses (book_of s))) h)

-- a buffer with room for numbers has room for their cells
cells_fit : (form : Form) (before numbers : List ℕ) → length numbers ≤ room_in form before
    → length (cells form numbers) ≤ length before
cells_fit Numbers before numbers h = h
cells_fit Bytes before numbers h = let e = bytes_room numbers in omega arith

front : (before l : List ℕ) → length l ≤ length before → sets before 0 l ≡ l ++ drop (length l) before
front before l h =
    let e : 0 + length l ≡ length l = omega arith in
    sets-eq l before 0 (omega arith) ∙ rw e

-- doses in a buffer, in either form
pub as_cells : (form : Form) (book before : List ℕ) → put form book before ≡ sets before 0 (dose_cells form book)
as_cells Numbers book before = refl
as_cells Bytes book before = refl

-- doses that fit are written whole
doses_put : (form : Form) (book before : List ℕ) → length (dose_cells form book) ≤ length before
    → put form book before ≡ dose_cells form book ++ drop (length (dose_cells form book)) before
doses_put form book before h = as_cells form book before ∙ front before (dose_cells form book) h

pub accepted_writes : AcceptedWrites
unfolding left_in
accepted_writes form edition s before count h =
    let k = done (reading_check edition s (room_in form before)) (length (doses (book_of s))) h in
    let r = pass_room edition s (room_in form before) k.0 in
    let n = numbers_room (doses (book_of s)) in
    let fits = cells_fit form before (numbers_of (doses (book_of s))) (omega arith) in
    (k.1, rw k.0 (doses_put form (book_of s) before fits))
