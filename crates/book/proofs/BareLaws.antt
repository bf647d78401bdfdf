-- Remarks without a body: the place behind a row of them for each way through the loop (on, stop, out), that passing
-- them changes neither the checks nor the doses (row_turn, row_skipped), and that it goes on (behind).
use Prim.Native.Nat.{ℕ, zero, suc, ◌+◌, ◌-◌, ◌≤◌, ◌<◌}
use mathlib.Core.Path.{◌≡◌, refl, sym, ◌∙◌}
use mathlib.Core.List.{List}
use mathlib.Core.Bool.{Bool, true, false, cond, not}
use lib.ListN.{length}
use lib.Dec.{eqb}
use native.Mathlib.Omega.{arith}
use borrow.Author.Tests.{le-leb, eqb-true, not-true, not-false}
use Rattle.book.specs.declared.dose.Dose.{Dose}
use Rattle.book.specs.Kinds.{is_weighed, body_size, is_bare, is_known}
use Rattle.book.specs.Book.{kind_at, record_end, places_from, past_bare, record_check, records_check}
use Rattle.book.specs.Doses.{doses_of}
use Rattle.book.proofs.RecordsLaws.{remark, turn}
use Rattle.format.specs.Verdicts.{check, Verdict}

bare_parts : (kind : ℕ) → is_bare kind ≡ true → (is_weighed kind ≡ false) × (body_size kind ≡ 0)
bare_parts kind h = go (is_weighed kind) refl h
  where
    go : (w : Bool) → is_weighed kind ≡ w → cond w false (eqb (body_size kind) 0) ≡ true
        → (is_weighed kind ≡ false) × (body_size kind ≡ 0)
    go true e t = let z : ◌≡◌ {A = ℕ} 0 1 = cc in absurd (omega arith)
    go false e t = (e, eqb-true (body_size kind) 0 t)

none : (b : List ℕ) (at : ℕ) → past_bare b zero at ≡ at
unfolding past_bare
none b at = refl

step : (b : List ℕ) (n at : ℕ) → past_bare b (suc n) at ≡ cond (is_bare (kind_at b at)) (past_bare b n (at + 1)) at
unfolding past_bare
step b n at = refl

unrolled : (b : List ℕ) (i : ℕ) → i < length b
    → past_bare b (length b - i) i ≡ cond (is_bare (kind_at b i)) (past_bare b (length b - (i + 1)) (i + 1)) i
unrolled b i l =
    let k : length b - i ≡ suc (length b - (i + 1)) = omega arith in
    rw k (step b (length b - (i + 1)) i)

-- v is the place that the loop looks for
module _ (b : List ℕ) (i : ℕ) {v : ℕ} (inv : v ≡ past_bare b (length b - i) i) where
  module _ (l : i < length b) {r : Bool} (h : r ≡ is_bare (kind_at b i)) where
    pub on : not r ≡ false → v ≡ past_bare b (length b - (i + 1)) (i + 1)
    on k = inv ∙ unrolled b i l ∙ rw (sym h ∙ not-false r k)

    pub stop : not r ≡ true → i ≡ v
    stop k = sym (inv ∙ unrolled b i l ∙ rw (sym h ∙ not-true r k))

  pub out : length b ≤ i → i ≤ length b → length b ≡ v
  unfolding past_bare
  out l m =
      let k : length b - i ≡ 0 = omega arith in
      let e : length b ≡ i = omega arith in
      e ∙ sym (inv ∙ rw k)

-- what one remark without a body does not change, a row of them does not
module _ {A : Type 0} (b : List ℕ) (f : List ℕ → A)
    (one : (at : ℕ) → at < length b → is_bare (kind_at b at) ≡ true
    → f (places_from b (length b - at) at) ≡ f (places_from b (length b - (at + 1)) (at + 1))) where
  row : (n at : ℕ) → at + n ≤ length b
      → f (places_from b (length b - at) at) ≡ f (places_from b (length b - past_bare b n at) (past_bare b n at))
  row zero at h = rw (none b at)
  row (suc n) at h = go (is_bare (kind_at b at)) refl (row n (at + 1) (omega arith))
    where
      left : ℕ → A
      left k = f (places_from b (length b - k) k)

      go : (t : Bool) → is_bare (kind_at b at) ≡ t → left (at + 1) ≡ left (past_bare b n (at + 1))
          → left at ≡ left (past_bare b (suc n) at)
      go true e k = one at (omega arith) e ∙ k ∙ rw (step b n at, e)
      go false e k = rw (step b n at, e)

  same : (at : ℕ) → at < length b → {r : Bool} → r ≡ is_bare (kind_at b at) → r ≡ true → {end : ℕ}
      → end ≡ past_bare b (length b - (at + 1)) (at + 1)
      → f (places_from b (length b - at) at) ≡ f (places_from b (length b - end) end)
  same at l h t e = one at l (sym h ∙ t) ∙ row (length b - (at + 1)) (at + 1) (omega arith) ∙ rw e

module _ (b : List ℕ) (at : ℕ) (l : at < length b) (t : is_bare (kind_at b at) ≡ true) where
  bare_end : at + 1 ≡ record_end b at
  bare_end = let k = (bare_parts (kind_at b at) t).1 in omega arith

  one_check : (edition : ℕ) → records_check (is_known edition) b (places_from b (length b - at) at)
      ≡ records_check (is_known edition) b (places_from b (length b - (at + 1)) (at + 1))
  unfolding record_check check
  one_check edition =
      turn (is_known edition) b at l refl bare_end (rw ((bare_parts (kind_at b at) t).0, le-leb (record_end b at) (length b) (omega (arith, bare_end))))

  one_doses : doses_of b (places_from b (length b - at) at) ≡ doses_of b (places_from b (length b - (at + 1)) (at + 1))
  one_doses = remark b at l bare_end {w = false} (sym (bare_parts (kind_at b at) t).0) refl

-- in the shape of what is known in a turn: r says whether the record is such a remark, end is the place behind the row
pub row_turn : (edition : ℕ) (b : List ℕ) (at : ℕ) → at < length b → {r : Bool} → r ≡ is_bare (kind_at b at) → r ≡ true
    → {end : ℕ} → end ≡ past_bare b (length b - (at + 1)) (at + 1)
    → {x : Verdict} → x ≡ records_check (is_known edition) b (places_from b (length b - at) at)
    → x ≡ records_check (is_known edition) b (places_from b (length b - end) end)
row_turn edition b at l h t e inv =
    inv ∙ same b (records_check (is_known edition) b) (λ k m n. one_check b k m n edition) at l h t e

pub row_skipped : (f : List Dose → ℕ) (b : List ℕ) (at : ℕ) → at < length b → {r : Bool} → r ≡ is_bare (kind_at b at)
    → r ≡ true → {end : ℕ} → end ≡ past_bare b (length b - (at + 1)) (at + 1)
    → (sofar : ℕ) {n : ℕ} → n ≡ sofar + f (doses_of b (places_from b (length b - at) at))
    → n ≡ sofar + f (doses_of b (places_from b (length b - end) end))
row_skipped f b at l h t e sofar inv = inv ∙ rw (same b (doses_of b) (one_doses b) at l h t e)

no_earlier : (b : List ℕ) (n at : ℕ) → at ≤ past_bare b n at
no_earlier b zero at = omega (arith, none b at)
no_earlier b (suc n) at = go (is_bare (kind_at b at)) refl (no_earlier b n (at + 1))
  where
    go : (t : Bool) → is_bare (kind_at b at) ≡ t → at + 1 ≤ past_bare b n (at + 1) → at ≤ past_bare b (suc n) at
    go true e k = rw (step b n at, e) (omega arith)
    go false e k = rw (step b n at, e) (omega arith)

pub behind : (b : List ℕ) (n at : ℕ) {end : ℕ} → end ≡ past_bare b n at → at ≤ end
behind b n at e = omega (arith, no_earlier b n at)
