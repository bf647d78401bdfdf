-- Checks 14 to 24, and 27, for each way through the functions that run them.
use Prim.Native.Nat.{ℕ, ◌*◌, ◌≤◌, ◌<◌}
use mathlib.Core.Path.{◌≡◌, refl, sym, ap, ◌∙◌}
use mathlib.Core.List.{List, [], ◌∷◌}
use mathlib.Core.Bool.{Bool, true, false, cond, not, ◌||◌, or-false}
use lib.ListN.{length}
use lib.Dec.{eqb, leb}
use mir.Syntax.{w32}
use mir.Val.{Fits}
use native.Mathlib.Omega.{arith}
use borrow.Author.Tests.{eq-eqb, ne_eqb, le-leb, lt-leb, not-true, not-false}
use Rattle.format.specs.declared.section.Section.{Section}
use Rattle.format.specs.Verdicts.{check, both, Verdict, Answer, pass, refusal}
use Rattle.format.proofs.VerdictLaws.{both_pass, both_fail}
use Rattle.catalogue.specs.declared.Line.{Line}
use Rattle.catalogue.specs.Catalogue.{signature_lines, header_lines, catalogue, line_at, in_edition}
use Rattle.catalogue.specs.Lists.{had_line, lines_had}
use Rattle.book.specs.declared.Weighed.{Weighed}
use Rattle.book.specs.Doses.{doses, weighed}
use Rattle.book.specs.Kinds.{kinds_of, last_edition}
use Rattle.book.proofs.PassLaws.{weighed_doses, weighed_unsound, few_doses}
use Rattle.book.proofs.KindTheorems.{any_kinds}
use Rattle.buffer.specs.Buffer.{numbers_per_dose}
use Rattle.reading.specs.Editions.{has_line, edition_of, batch_tag, has_batch}
use Rattle.reading.specs.Reading.{weight_in, sum_check, room_check, book_part}
use Rattle.reading.specs.Weighings.{weighing_as}
use Rattle.std.specs.Prelude.{Result, Ok, Err}
use Rattle.format.specs.declared.verdict.Refusal.{Refusal}

-- a tag has a line in an edition where a row of it has the tag and is the edition's
had_row : (edition tag : ℕ) (a : Line) (rest : List Line)
    → has_line tag (lines_had edition (a ∷ rest))
    ≡ (cond (eqb a.tag tag) (in_edition edition a) false || has_line tag (lines_had edition rest))
unfolding has_line lines_had
had_row edition tag a rest = go (in_edition edition a) (eqb a.tag tag) refl
  where
    go : (h t : Bool) → eqb a.tag tag ≡ t
        → has_line tag (cond h (had_line a ∷ lines_had edition rest) (lines_had edition rest))
        ≡ (cond (eqb a.tag tag) h false || has_line tag (lines_had edition rest))
    go true true e = rw e
    go true false e = rw e
    go false true e = rw e
    go false false e = rw e

no_row : (edition tag : ℕ) → has_line tag (lines_had edition []) ≡ false
unfolding has_line lines_had
no_row edition tag = refl

-- 20002 has a line in the editions that have line 81 of the catalogue
batch_line_lem : (edition : ℕ) → in_edition edition (line_at 81) ≡ has_batch (edition_of edition)
unfolding line_at catalogue signature_lines header_lines
batch_line_lem edition = sym (simp (had_row edition batch_tag, no_row edition batch_tag, or-false))

-- check 23, by whether the edition has the batch weight's line: b is the answer for the line that was read
module _ (edition : ℕ) (s : List ℕ) (header : Section) (sum : ℕ) {line : Line} (p : line ≡ line_at 81) {b : Bool}
    (q : b ≡ in_edition edition line) where
  has_batch_lem : b ≡ has_batch (edition_of edition)
  has_batch_lem = q ∙ ap (in_edition edition) p ∙ batch_line_lem edition

  pub no_batch : not b ≡ true → pass ≡ sum_check (edition_of edition) s header sum
  unfolding sum_check
  no_batch h = rw (sym has_batch_lem ∙ not-true b h)

  module _ (h : not b ≡ false) {n : ℕ} (k : n ≡ weight_in s header) where
    pub batch_right : n ≡ sum → pass ≡ sum_check (edition_of edition) s header sum
    unfolding sum_check check
    batch_right e = rw (sym has_batch_lem ∙ not-false b h, eq-eqb (weight_in s header) sum (sym k ∙ e))

    pub batch_wrong : {e : Refusal} → e ≡ refusal 23 batch_tag → (n ≡ sum → ⊥) → Err e ≡ sum_check (edition_of edition) s header sum
    unfolding sum_check check
    batch_wrong d e = rw (sym has_batch_lem ∙ not-false b h, ne_eqb (weight_in s header) sum (λ j. e (k ∙ j))) (ap Err d)

-- checks 19 to 24, by what weighing the book found
module _ (edition : ℕ) (s : List ℕ) (header : Section) (room : ℕ) (b : List ℕ) {w : Result Weighed Refusal} (p : w ≡ weighed edition b) where
  pub book_refused : {e : Refusal} {answer : Answer} → answer ≡ Err e → w ≡ Err e
      → answer ≡ weighing_as (book_part (edition_of edition) s header room b) (length (doses b))
  unfolding book_part
  book_refused a h = a ∙ rw (both_fail _ (weighed_unsound edition b p h))

  module _ {found : Weighed} (h : w ≡ Ok found) where
    pub needed_fits : Fits w32 (numbers_per_dose * found.count)
    needed_fits = let k = few_doses edition b p h in record { fits = omega arith }

    -- what is left once the book passed
    book_left : book_part (edition_of edition) s header room b
        ≡ both (sum_check (edition_of edition) s header found.sum)
        (check (leb (numbers_per_dose * found.count) room) 24 (numbers_per_dose * found.count) pass)
    unfolding book_part room_check
    book_left =
        let d = weighed_doses edition b p h in
        let k = any_kinds (kinds_of edition) (kinds_of last_edition) b in
        both_pass d.0 ∙ rw (k.0, k.1, ← d.1, ← d.2)

    module _ {v : Verdict} (q : v ≡ sum_check (edition_of edition) s header found.sum) where
      pub sum_refused : {e : Refusal} {answer : Answer} → answer ≡ Err e → v ≡ Err e
          → answer ≡ weighing_as (book_part (edition_of edition) s header room b) (length (doses b))
      sum_refused a k = a ∙ rw (book_left ∙ both_fail _ (sym q ∙ k))

      left : v ≡ pass → book_part (edition_of edition) s header room b
          ≡ check (leb (numbers_per_dose * found.count) room) 24 (numbers_per_dose * found.count) pass
      left k =
          book_left
          ∙ both_pass {rest = check (leb (numbers_per_dose * found.count) room) 24 (numbers_per_dose * found.count) pass} (sym q ∙ k)

      pub room_refused : {e : Refusal} → e ≡ refusal 24 (numbers_per_dose * found.count) → v ≡ pass → room < numbers_per_dose * found.count
          → Err e ≡ weighing_as (book_part (edition_of edition) s header room b) (length (doses b))
      unfolding check
      room_refused e k l = rw (left k, lt-leb (numbers_per_dose * found.count) room l) (ap Err e)

      pub doses_accepted : v ≡ pass → numbers_per_dose * found.count ≤ room
          → Ok found.count ≡ weighing_as (book_part (edition_of edition) s header room b) (length (doses b))
      unfolding check
      doses_accepted k l =
          rw (left k, le-leb (numbers_per_dose * found.count) room l) (ap Ok (weighed_doses edition b p h).1)
