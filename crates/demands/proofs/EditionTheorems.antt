-- Demand 3 for any editions: editions_agree. Two readings by what their verdicts are.
use Prim.Native.Nat.{ℕ}
use mathlib.Core.Path.{◌≡◌, sym, ap, ◌∙◌}
use mathlib.Core.Logic.{◌⊎◌, inl, inr}
use mathlib.Core.List.{List}
use lib.ListN.{length}
use lib.Seq.{sets}
use native.Mathlib.Omega.{arith}
use Rattle.format.proofs.VerdictLaws.{refusal_same, both_inverted}
use Rattle.catalogue.specs.declared.Line.{Line}
use Rattle.book.specs.declared.dose.Dose.{Dose}
use Rattle.book.specs.Kinds.{knows}
use Rattle.book.specs.Book.{places, book_check}
use Rattle.book.specs.Doses.{doses_in}
use Rattle.book.proofs.KindTheorems.{kept_kinds}
use Rattle.buffer.specs.Buffer.{numbers_of}
use Rattle.reading.specs.Editions.{Edition}
use Rattle.reading.specs.Reading.{book_of, book_part, checks_at, answer_as, answer_at}
use Rattle.reading.specs.Buffers.{Form, room_in, cells, left_at}
use Rattle.reading.proofs.AnswerLaws.{done, refused, pass_book}
use Rattle.demands.specs.Editions.{Extends, batch_line, IsEdition, First, NoneLacks, lacking_in}
use Rattle.demands.specs.Editions.{AddsLine, ByAdded, EditionsAgree}
use Rattle.demands.proofs.BookAgreement.{passed_none}
use Rattle.demands.proofs.EditionBlocks.{StopsAdded, Alike, checks_agree}
use Rattle.std.specs.Prelude.{Ok, Err}
use Rattle.format.specs.Verdicts.{Verdict, pass, refusal}

-- a reading that passed lacks no kind of its book
pass_lacks_none : (edition : Edition) (s : List ℕ) (room : ℕ) → checks_at edition s room ≡ pass
    → lacking_in edition (book_of s) ≡ NoneLacks
unfolding book_part book_check
pass_lacks_none edition s room h =
    let k = both_inverted _ _ (pass_book edition s room h) in
    passed_none (knows edition.kinds) (book_of s) (places (book_of s)) (both_inverted _ _ k.0).1

-- a refusal by an added line is no pass, and needs one
added_refuses : (earlier later : Edition) (v : Verdict) → StopsAdded earlier later v → v ≡ pass → ⊥
added_refuses earlier later v (inl (line, a, inl h)) p = let z : ◌≡◌ {A = ℕ} 0 1 = cc in omega arith
added_refuses earlier later v (inl (line, a, inr h)) p = let z : ◌≡◌ {A = ℕ} 0 1 = cc in omega arith
added_refuses earlier later v (inr (a, h)) p = let z : ◌≡◌ {A = ℕ} 0 1 = cc in omega arith

added_line : (earlier later : Edition) (v : Verdict) → StopsAdded earlier later v → (line : Line) × AddsLine earlier later line
added_line earlier later v (inl (line, a, r)) = (line, a)
added_line earlier later v (inr (a, h)) = (batch_line, inr a)

-- as an answer
as_answer : (earlier later : Edition) (v : Verdict) (count : ℕ) → StopsAdded earlier later v
    → ByAdded earlier later (answer_as v count)
as_answer earlier later v count (inl (line, a, inl h)) = inl (line, a, inl (rw h))
as_answer earlier later v count (inl (line, a, inr h)) = inl (line, a, inr (rw h))
as_answer earlier later v count (inr (a, h)) = inr (a, rw h)

-- the doses of a book that an edition accepts are the same at one that keeps its kinds
pub same_doses : (earlier later : Edition) → Extends earlier later → (s : List ℕ) (room : ℕ) → checks_at earlier s room ≡ pass
    → doses_in earlier.kinds (book_of s) ≡ doses_in later.kinds (book_of s)
unfolding book_part
same_doses earlier later extends s room h =
    kept_kinds earlier.kinds later.kinds extends.kinds (book_of s) (both_inverted _ _ (pass_book earlier s room h)).0

module _ (earlier later : Edition) (lawful : IsEdition earlier) (lawful' : IsEdition later) (extends : Extends earlier later)
    (form : Form) (s before : List ℕ) where
  abbrev room : ℕ
  room = room_in form before

  abbrev v : Verdict
  v = checks_at earlier s room

  abbrev w : Verdict
  w = checks_at later s room

  abbrev count : ℕ
  count = length (doses_in earlier.kinds (book_of s))

  abbrev count' : ℕ
  count' = length (doses_in later.kinds (book_of s))

  lacks_case : (place : ℕ) → Alike earlier later (book_of s) v w → w ≡ pass → lacking_in earlier (book_of s) ≡ First place
      → v ≡ Err (refusal 20 place)
  lacks_case place (inl e) p f =
      let n = pass_lacks_none earlier s room (e ∙ p) in
      let z : ◌≡◌ {A = ℕ} 0 1 = cc in
      absurd (omega arith)
  lacks_case place (inr (inl (q, h, g))) p f = let k : q ≡ place = cc in rw (← k) h
  lacks_case place (inr (inr a)) p f = absurd (added_refuses earlier later _ a p)

  none_case : Alike earlier later (book_of s) v w → w ≡ pass → lacking_in earlier (book_of s) ≡ NoneLacks → v ≡ pass
  none_case (inl e) p f = e ∙ p
  none_case (inr (inl (q, h, g))) p f = let z : ◌≡◌ {A = ℕ} 0 1 = cc in absurd (omega arith)
  none_case (inr (inr a)) p f = absurd (added_refuses earlier later _ a p)

  -- where the earlier passed, the later does, or stops at a line that it adds
  later_case : Alike earlier later (book_of s) v w → v ≡ pass → (w ≡ pass) ⊎ StopsAdded earlier later w
  later_case (inl e) p = inl (sym e ∙ p)
  later_case (inr (inl (q, h, g))) p = let z : ◌≡◌ {A = ℕ} 0 1 = cc in absurd (omega arith)
  later_case (inr (inr a)) p = inr a

  both_case : (number place : ℕ) → Alike earlier later (book_of s) v w → v ≡ Err (refusal number place)
      → (v ≡ w) ⊎ (number ≡ 20) ⊎ StopsAdded earlier later w
  both_case number place (inl e) p = inl e
  both_case number place (inr (inl (q, h, g))) p = inr (inl (refusal_same (sym p ∙ h)).0)
  both_case number place (inr (inr a)) p = inr (inr a)

  -- both accept: the same doses, and equal buffers
  same_count : v ≡ pass → count ≡ count'
  same_count p = ap length (same_doses earlier later extends s room p)

  both_left : v ≡ pass → w ≡ pass → left_at form earlier s before ≡ left_at form later s before
  unfolding left_at
  both_left p q =
      rw (p, q) (ap (λ (ds : List Dose). sets before 0 (cells form (numbers_of ds))) (same_doses earlier later extends s room p))

  accepted_both_lem : (n : ℕ) → answer_at later s room ≡ Ok n → lacking_in earlier (book_of s) ≡ NoneLacks
      → (answer_at earlier s room ≡ Ok n) × (left_at form earlier s before ≡ left_at form later s before)
  accepted_both_lem n h f =
      let k = done w count' h in
      let p = none_case (checks_agree earlier later lawful lawful' extends s room) k.0 f in
      (rw p (ap Ok (same_count p ∙ sym k.1)), both_left p k.0)

  later_refuses_lem : (n number place : ℕ) → answer_at earlier s room ≡ Ok n → answer_at later s room ≡ Err (refusal number place)
      → ByAdded earlier later (answer_at later s room)
  later_refuses_lem n number place h f =
      sorted (later_case (checks_agree earlier later lawful lawful' extends s room) (done v count h).0) (refused w count' f)
    where
      sorted : (w ≡ pass) ⊎ StopsAdded earlier later w → w ≡ Err (refusal number place) → ByAdded earlier later (answer_as w count')
      sorted (inl p) q = let z : ◌≡◌ {A = ℕ} 0 1 = cc in absurd (omega arith)
      sorted (inr a) q = as_answer earlier later w count' a

  none_added_lem : ((line : Line) → AddsLine earlier later line → ⊥) → (n : ℕ) → answer_at earlier s room ≡ Ok n
      → answer_at later s room ≡ Ok n
  none_added_lem none n h = let k = done v count h in sorted k.0 k.1 (later_case (checks_agree earlier later lawful lawful' extends s room) k.0)
    where
      sorted : v ≡ pass → n ≡ count → (w ≡ pass) ⊎ StopsAdded earlier later w → answer_as w count' ≡ Ok n
      sorted p e (inl q) = rw q (ap Ok (sym (e ∙ same_count p)))
      sorted p e (inr a) = let k = added_line earlier later w a in absurd (none k.0 k.1)

  both_refuse_lem : (number place : ℕ) → answer_at earlier s room ≡ Err (refusal number place)
      → (answer_at earlier s room ≡ answer_at later s room) ⊎ (number ≡ 20) ⊎ ByAdded earlier later (answer_at later s room)
  both_refuse_lem number place h = sorted (refused v count h) (both_case number place (checks_agree earlier later lawful lawful' extends s room) (refused v count h))
    where
      sorted : v ≡ Err (refusal number place) → (v ≡ w) ⊎ (number ≡ 20) ⊎ StopsAdded earlier later w
          → (answer_as v count ≡ answer_as w count') ⊎ (number ≡ 20) ⊎ ByAdded earlier later (answer_as w count')
      sorted p (inl e) = inl (rw (p, sym e ∙ p))
      sorted p (inr (inl e)) = inr (inl e)
      sorted p (inr (inr a)) = inr (inr (as_answer earlier later w count' a))

pub editions_agree : EditionsAgree
editions_agree earlier later lawful lawful' extends form s before =
    record {
      accepted_lacks = λ n place h f.
          rw (lacks_case earlier later lawful lawful' extends form s before place
          (checks_agree earlier later lawful lawful' extends s (room_in form before))
          (done (checks_at later s (room_in form before)) (length (doses_in later.kinds (book_of s))) h).0 f);
      accepted_both = accepted_both_lem earlier later lawful lawful' extends form s before;
      later_refuses = later_refuses_lem earlier later lawful lawful' extends form s before;
      none_added = none_added_lem earlier later lawful lawful' extends form s before;
      both_refuse = λ number place number' place' h f.
          both_refuse_lem earlier later lawful lawful' extends form s before number place h;
    }
