-- Request 1: what a writing answers, and the buffer afterwards.
use Rattle.std.specs.Prelude.{ℕ, ◌≡◌, List, length, Ok, Err}
use Rattle.std.proofs.lemmas.List.Edits.{sets}
use Rattle.plan.specs.Refusals.{written_of, write_check}
use Rattle.format.specs.Verdicts.{Verdict, Answer}

-- success is 0 with the length; bytes behind it stay; a refusal leaves the buffer unchanged
abbrev pub answer_as : Verdict → List ℕ → Answer
answer_as (Ok _) bytes = Ok (length bytes)
answer_as (Err e) bytes = Err e

abbrev pub buffer_as : Verdict → List ℕ → List ℕ → List ℕ
buffer_as (Ok _) bytes before = sets before 0 bytes
buffer_as (Err e) bytes before = before

-- the answer, and the buffer afterwards
abbrev pub write_answer : List ℕ → List ℕ → List ℕ → List ℕ → List ℕ → List ℕ → Answer
write_answer name signature signatureRow header headerRow before =
    answer_as (write_check name signature signatureRow header headerRow (length before))
    (written_of name signature signatureRow header headerRow)

abbrev pub buffer_after : List ℕ → List ℕ → List ℕ → List ℕ → List ℕ → List ℕ → List ℕ
buffer_after name signature signatureRow header headerRow before =
    buffer_as (write_check name signature signatureRow header headerRow (length before))
    (written_of name signature signatureRow header headerRow) before

-- the promise
pub record Wrote (name signature signatureRow header headerRow before : List ℕ) (answer : Answer) (after : List ℕ) : Type 0
  where
    pub answered : answer ≡ write_answer name signature signatureRow header headerRow before
    pub left : after ≡ buffer_after name signature signatureRow header headerRow before
