-- What the writing's promise says where it is accepted: the answer and the buffer (done, stands), and that the number is 0
-- exactly there (zero_number).
use Prim.Native.Nat.{ℕ, ◌≤◌}
use mathlib.Core.Path.{◌≡◌, refl, sym, ap, ◌∙◌}
use mathlib.Core.Logic.{◌↔◌}
use mathlib.Core.List.{List, ◌++◌}
use lib.ListN.{length, take, drop}
use lib.Seq.{take_at, drop_at}
use native.Mathlib.Omega.{arith}
use Rattle.std.specs.Prelude.{Ok, Err}
use Rattle.format.specs.Verdicts.{number_of, Verdict, Answer, pass, refusal}
use Rattle.put.proofs.PutLaws.{at_front}
use Rattle.plan.specs.Refusals.{written_of, write_check}
use Rattle.writer.specs.Writing.{answer_as, buffer_as, Wrote}
use Rattle.roundtrip.proofs.ReasonLaws.{accepted}
use Rattle.roundtrip.proofs.NumberLaws.{write_number}

answered_done : (v : Verdict) (bytes : List ℕ) {n : ℕ} → answer_as v bytes ≡ Ok n → (v ≡ pass) × (length bytes ≡ n)
answered_done (Ok _) bytes h = (refl, cc)
answered_done (Err e) bytes h = absurd cc

answered_zero : (v : Verdict) (bytes : List ℕ) → ((number place : ℕ) → v ≡ Err (refusal number place) → 1 ≤ number)
    → (number_of (answer_as v bytes) ≡ 0) ↔ (v ≡ pass)
answered_zero (Ok _) bytes f = (λ h. refl, λ h. refl)
answered_zero (Err e) bytes f =
    let l = f e.number e.place refl in
    (λ h. absurd (omega arith), λ h. absurd cc)

module _ {name signature signatureRow header headerRow before after : List ℕ} {answer : Answer}
    (w : Wrote name signature signatureRow header headerRow before answer after) where
  abbrev bytes : List ℕ
  bytes = written_of name signature signatureRow header headerRow

  abbrev verdict : Verdict
  verdict = write_check name signature signatureRow header headerRow (length before)

  pub done : {n : ℕ} → answer ≡ Ok n → (verdict ≡ pass) × (length bytes ≡ n)
  done h = answered_done verdict bytes (sym w.answered ∙ h)

  pub zero_number : (number_of answer ≡ 0) ↔ (verdict ≡ pass)
  zero_number =
      rw w.answered
      (answered_zero verdict bytes
      (λ number place h.
      let k = write_number name signature signatureRow header headerRow (length before) h in omega arith))

  pub stands : (n : ℕ) → verdict ≡ pass → length bytes ≡ n
      → (answer ≡ Ok n) × (take n after ≡ bytes) × (drop n after ≡ drop n before)
  stands n v size =
      let a = (accepted name signature signatureRow header headerRow (length before)).0 v in
      let f = a.fits in
      let whole : after ≡ bytes ++ drop n before =
      w.left ∙ ap (λ (v : Verdict). buffer_as v bytes before) v ∙ at_front before bytes f ∙ rw size in (
        w.answered ∙ ap (λ (v : Verdict). answer_as v bytes) v ∙ rw size,
        rw whole (take_at bytes (drop n before) n size),
        rw whole (drop_at bytes (drop n before) n size),
      )
