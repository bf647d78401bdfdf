-- What an answer says of the verdict and of the buffer's room: done, refused, pass_book, pass_room, answer_room. At a known
-- edition the reading is its checks from 2 on: at_known.
use Prim.Native.Nat.{ℕ, ◌*◌, ◌≤◌}
use mathlib.Core.Path.{◌≡◌, refl, sym, ◌∙◌}
use mathlib.Core.List.{List}
use lib.ListN.{length}
use native.Mathlib.Omega.{arith}
use borrow.Author.Tests.{le-leb, leb-true}
use Rattle.format.specs.Verdicts.{check, Verdict, Answer, pass, refusal}
use Rattle.format.proofs.VerdictLaws.{both_pass, inverted, both_inverted}
use Rattle.package.specs.Package.{header_at}
use Rattle.book.specs.Kinds.{kinds_of, last_edition}
use Rattle.book.specs.Doses.{doses}
use Rattle.book.proofs.KindTheorems.{any_kinds}
use Rattle.buffer.specs.Buffer.{numbers_per_dose}
use Rattle.reading.specs.Editions.{Edition, edition_of}
use Rattle.reading.specs.Reading.{edition_check, book_of, needed, room_check, book_part, opened_check, checks_at, reading_check}
use Rattle.reading.specs.Reading.{answer_as, read_answer}
use Rattle.std.specs.Prelude.{Ok, Err}

pub done : (v : Verdict) (count : ℕ) {n : ℕ} → answer_as v count ≡ Ok n → (v ≡ pass) × (n ≡ count)
done (Ok _) count h = (refl, cc)
done (Err e) count h = let z : ◌≡◌ {A = ℕ} 0 1 = cc in absurd (omega arith)

pub refused : (v : Verdict) (count : ℕ) {n p : ℕ} → answer_as v count ≡ Err (refusal n p) → v ≡ Err (refusal n p)
refused (Ok _) count h = let z : ◌≡◌ {A = ℕ} 0 1 = cc in absurd (omega arith)
refused (Err e) count h = cc

module _ (edition : ℕ) (l : 1 ≤ edition) (m : edition ≤ last_edition) where
  known_edition : edition_check edition ≡ pass
  unfolding edition_check check
  known_edition = rw (le-leb 1 edition l, le-leb edition last_edition m)

  pub at_known : (s : List ℕ) (room : ℕ) → reading_check edition s room ≡ checks_at (edition_of edition) s room
  unfolding reading_check
  at_known s room = both_pass known_edition

-- where all checks pass, so do those of the book
pub pass_book : (edition : Edition) (s : List ℕ) (room : ℕ) → checks_at edition s room ≡ pass
    → book_part edition s (header_at s) room (book_of s) ≡ pass
unfolding checks_at opened_check
pass_book edition s room h = (both_inverted _ _ (both_inverted _ _ (both_inverted _ _ h).1).1).1

-- where the reading passes, the buffer has room
pub pass_room : (edition : ℕ) (s : List ℕ) (room : ℕ) → reading_check edition s room ≡ pass
    → numbers_per_dose * length (doses (book_of s)) ≤ room
unfolding reading_check book_part room_check
pass_room edition s room h =
    let k = both_inverted _ _ (pass_book (edition_of edition) s room (both_inverted _ _ h).1) in
    let n : needed (kinds_of edition) (book_of s) ≤ room = leb-true _ _ (inverted _ _ _ _ (both_inverted _ _ k.1).1).0 in
    let same = (any_kinds (kinds_of edition) (kinds_of last_edition) (book_of s)).0 in
    omega arith

pub answer_room : (edition : ℕ) (s : List ℕ) (room : ℕ) {answer : Answer} {count : ℕ} → answer ≡ read_answer edition s room
    → answer ≡ Ok count → numbers_per_dose * count ≤ room
answer_room edition s room p h =
    let k = done (reading_check edition s room) (length (doses (book_of s))) (sym p ∙ h) in
    let r = pass_room edition s room k.0 in
    omega arith
