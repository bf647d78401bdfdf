-- Document 01, "Bench samples", P books, and books with lots (request 7): a book at an edition, the verdict of checks 19 to 22,
-- and the doses of one that passed, oxide, milligrams, lot.
use Rattle.std.specs.Prelude.{ℕ, List, [], ◌∷◌, ◌++◌, Bool, ◌&&◌, Ok, Err}
use Rattle.be.specs.Bytes.{same_bytes}
use Rattle.book.specs.Kinds.{is_known}
use Rattle.book.specs.Book.{book_check}
use Rattle.book.specs.Doses.{doses}
use Rattle.buffer.specs.Buffer.{numbers_of}
use Rattle.samples.specs.Stores.{is_verdict}
use Rattle.format.specs.Verdicts.{Verdict, pass, refusal}

pub record BookSample : Type 0 where
  pub edition : ℕ
  pub bytes : List ℕ
  pub verdict : Verdict
  pub doses : List ℕ

-- kind 86 with 5,000,000 milligrams, and with one more; kind 98
abbrev pub heaviest : List ℕ
heaviest = 0x86 ∷ 0x00 ∷ 0x1B ∷ 0x00 ∷ 0x4C ∷ 0x4B ∷ 0x40 ∷ []

abbrev pub too_heavy : List ℕ
too_heavy = 0x86 ∷ 0x00 ∷ 0x1B ∷ 0x00 ∷ 0x4C ∷ 0x4B ∷ 0x41 ∷ []

abbrev pub toleranced : List ℕ
toleranced = 0x98 ∷ 0x00 ∷ 0x1B ∷ 0x00 ∷ 0x00 ∷ 0x04 ∷ 0xE2 ∷ 0x00 ∷ 0x05 ∷ []

-- a date cut short
abbrev pub cut_short : List ℕ
cut_short = 0x14 ∷ 0x00 ∷ 0x00 ∷ []

-- kind AA with lot 0, with the highest lot, and one byte short; behind a kind 86, behind a kind 98, and before both
abbrev pub no_lot : List ℕ
no_lot = 0xAA ∷ 0x00 ∷ 0x1B ∷ 0x00 ∷ 0x00 ∷ 0x04 ∷ 0xE2 ∷ 0x00 ∷ 0x00 ∷ 0x00 ∷ 0x00 ∷ []

abbrev pub highest_lot : List ℕ
highest_lot = 0xAA ∷ 0x00 ∷ 0x1B ∷ 0x00 ∷ 0x00 ∷ 0x04 ∷ 0xE2 ∷ 0xFF ∷ 0xFF ∷ 0xFF ∷ 0xFF ∷ []

abbrev pub lot_cut : List ℕ
lot_cut = 0xAA ∷ 0x00 ∷ 0x1B ∷ 0x00 ∷ 0x00 ∷ 0x04 ∷ 0xE2 ∷ 0x00 ∷ 0x00 ∷ 0x00 ∷ []

abbrev pub lot_behind : List ℕ
lot_behind = heaviest ++ highest_lot

abbrev pub lot_behind98 : List ℕ
lot_behind98 = toleranced ++ highest_lot

abbrev pub lot_before : List ℕ
lot_before = highest_lot ++ toleranced ++ heaviest

abbrev pub books : List BookSample
books =
    record { edition = 2; bytes = heaviest; verdict = pass; doses = 27 ∷ 5000000 ∷ 0 ∷ [] }
    ∷ record { edition = 2; bytes = too_heavy; verdict = Err (refusal 22 0); doses = [] }
    ∷ record { edition = 1; bytes = toleranced; verdict = Err (refusal 20 0); doses = [] }
    ∷ record { edition = 2; bytes = toleranced; verdict = pass; doses = 27 ∷ 1250 ∷ 0 ∷ [] }
    ∷ record { edition = 1; bytes = cut_short; verdict = Err (refusal 21 0); doses = [] }
    ∷ record { edition = 2; bytes = cut_short; verdict = Err (refusal 21 0); doses = [] }
    ∷ record { edition = 2; bytes = 0x96 ∷ []; verdict = Err (refusal 20 0); doses = [] }
    ∷ record { edition = 2; bytes = 0x7F ∷ []; verdict = Err (refusal 21 0); doses = [] }
    ∷ record { edition = 2; bytes = 0x80 ∷ []; verdict = Err (refusal 20 0); doses = [] }
    ∷ record { edition = 2; bytes = 0x00 ∷ []; verdict = pass; doses = [] }
    ∷ record { edition = 3; bytes = heaviest; verdict = pass; doses = 27 ∷ 5000000 ∷ 0 ∷ [] }
    ∷ record { edition = 3; bytes = toleranced; verdict = pass; doses = 27 ∷ 1250 ∷ 0 ∷ [] }
    ∷ record { edition = 3; bytes = no_lot; verdict = pass; doses = 27 ∷ 1250 ∷ 0 ∷ [] }
    ∷ record { edition = 3; bytes = highest_lot; verdict = pass; doses = 27 ∷ 1250 ∷ 4294967295 ∷ [] }
    ∷ record { edition = 1; bytes = lot_behind; verdict = Err (refusal 20 7); doses = [] }
    ∷ record { edition = 2; bytes = lot_behind; verdict = Err (refusal 20 7); doses = [] }
    ∷ record { edition = 3; bytes = lot_behind; verdict = pass; doses = 27 ∷ 5000000 ∷ 0 ∷ 27 ∷ 1250 ∷ 4294967295 ∷ [] }
    ∷ record { edition = 1; bytes = lot_behind98; verdict = Err (refusal 20 0); doses = [] }
    ∷ record { edition = 2; bytes = lot_behind98; verdict = Err (refusal 20 9); doses = [] }
    ∷ record { edition = 3; bytes = lot_behind98; verdict = pass; doses = 27 ∷ 1250 ∷ 0 ∷ 27 ∷ 1250 ∷ 4294967295 ∷ [] }
    ∷ record {
      edition = 3;
      bytes = lot_before;
      verdict = pass;
      doses = 27 ∷ 1250 ∷ 4294967295 ∷ 27 ∷ 1250 ∷ 0 ∷ 27 ∷ 5000000 ∷ 0 ∷ [];
    }
    ∷ record { edition = 3; bytes = lot_cut; verdict = Err (refusal 21 0); doses = [] }
    ∷ []

-- a refused book gives no doses
abbrev pub given : Verdict → List ℕ → List ℕ
given (Ok _) numbers = numbers
given (Err e) numbers = []

abbrev pub book_right : BookSample → Bool
book_right sample =
    let verdict = book_check (is_known sample.edition) sample.bytes in
    is_verdict verdict sample.verdict && same_bytes (given verdict (numbers_of (doses sample.bytes))) sample.doses
