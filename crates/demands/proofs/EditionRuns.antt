-- The reading that runs at a number is that of the edition: editions_run.
use Prim.Native.Nat.{ℕ, ◌≤◌}
use mathlib.Core.Path.{◌≡◌, refl, sym, ap, ◌∙◌}
use mathlib.Core.List.{List}
use lib.ListN.{length}
use lib.Seq.{sets}
use Rattle.book.specs.declared.dose.Dose.{Dose}
use Rattle.book.specs.Kinds.{kinds_of, last_edition}
use Rattle.book.specs.Doses.{doses_in, doses}
use Rattle.buffer.specs.Buffer.{numbers_of}
use Rattle.reading.specs.Editions.{edition_of}
use Rattle.reading.specs.Reading.{book_of, checks_at, answer_as}
use Rattle.reading.specs.Buffers.{Form, room_in, cells, put, after_as, left_at, left_in}
use Rattle.reading.proofs.AnswerLaws.{at_known}
use Rattle.demands.specs.Editions.{EditionsRun}
use Rattle.demands.proofs.Demand1.{as_cells}
use Rattle.demands.proofs.EditionTheorems.{same_doses}
use Rattle.demands.proofs.EditionInstances.{editions_extend}
use Rattle.std.specs.Prelude.{Ok, Err}
use Rattle.format.specs.Verdicts.{Verdict, pass}

module _ (form : Form) (edition : ℕ) (l : 1 ≤ edition) (m : edition ≤ last_edition) (s before : List ℕ) where
  abbrev room : ℕ
  room = room_in form before

  -- by all kinds and by the edition's, of a book that it accepts
  kept : checks_at (edition_of edition) s room ≡ pass → doses (book_of s) ≡ doses_in (kinds_of edition) (book_of s)
  kept h = sym (same_doses (edition_of edition) (edition_of last_edition) (editions_extend edition last_edition m) s room h)

  same_answer : (v : Verdict) → checks_at (edition_of edition) s room ≡ v
      → answer_as v (length (doses (book_of s))) ≡ answer_as v (length (doses_in (kinds_of edition) (book_of s)))
  same_answer (Ok _) h = ap (λ (ds : List Dose). answer_as pass (length ds)) (kept h)
  same_answer (Err e) h = refl

  same_left : (v : Verdict) → checks_at (edition_of edition) s room ≡ v
      → after_as v before (put form (book_of s) before)
      ≡ after_as v before (sets before 0 (cells form (numbers_of (doses_in (kinds_of edition) (book_of s)))))
  same_left (Ok _) h =
      as_cells form (book_of s) before ∙ ap (λ (ds : List Dose). sets before 0 (cells form (numbers_of ds))) (kept h)
  same_left (Err e) h = refl

pub editions_run : EditionsRun
unfolding left_at left_in
editions_run form edition l m s before =
    record {
      answers = rw (at_known edition l m s (room_in form before)) (same_answer form edition l m s before _ refl);
      leaves = rw (at_known edition l m s (room_in form before)) (same_left form edition l m s before _ refl);
    }
