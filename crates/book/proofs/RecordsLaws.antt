-- Laws of the walk over a book's records, for each way through a turn: of its doses (weighed, remark, no_doses), of its
-- checks (turn, ends), of the count and the sum (counted, summed, skipped), and of all where it ends (spent).
use Prim.Native.Nat.{ℕ, ◌+◌, ◌-◌, ◌≤◌, ◌<◌}
use mathlib.Core.Path.{◌≡◌, refl, sym, ap, ◌∙◌}
use mathlib.Core.List.{List, [], ◌∷◌}
use mathlib.Core.Bool.{Bool, true, false, cond}
use lib.ListN.{length}
use native.Mathlib.Omega.{arith}
use Rattle.format.specs.Verdicts.{both, Verdict, pass}
use Rattle.format.specs.declared.verdict.Refusal.{Refusal}
use Rattle.format.proofs.VerdictLaws.{both_pass, both_fail}
use Rattle.book.specs.declared.dose.Dose.{Dose}
use Rattle.book.specs.Kinds.{is_weighed}
use Rattle.book.specs.Book.{kind_at, record_end, places_from, dose_at, record_check, records_check}
use Rattle.book.specs.Doses.{dose_of, doses_by, doses_of, sum_of, weighed_as}
use Rattle.book.proofs.PlaceLaws.{first, none}
use Rattle.std.specs.Prelude.{Option, Some, None, Ok, Err}

doses_step : (b rest : List ℕ) (at : ℕ)
    → doses_of b (at ∷ rest) ≡ cond (is_weighed (kind_at b at)) (dose_at b at ∷ doses_of b rest) (doses_of b rest)
unfolding doses_by
doses_step b rest at = refl

doses_nil : (b : List ℕ) → doses_of b [] ≡ []
unfolding doses_by
doses_nil b = refl

pub check_step : (known : ℕ → Bool) (b rest : List ℕ) (at : ℕ)
    → records_check known b (at ∷ rest) ≡ both (record_check known b at) (records_check known b rest)
unfolding records_check
check_step known b rest at = refl

pub check_nil : (known : ℕ → Bool) (b : List ℕ) → records_check known b [] ≡ pass
unfolding records_check
check_nil known b = refl

-- w says whether the record is weighed, and end is where the next one starts
module _ (b : List ℕ) (at : ℕ) (l : at < length b) {end : ℕ} (e : end ≡ record_end b at) where
  pub walk : places_from b (length b - at) at ≡ at ∷ places_from b (length b - end) end
  walk = first b at l ∙ rw e

  pub weighed : {w : Bool} {dose : Dose} → w ≡ is_weighed (kind_at b at) → w ≡ true → dose ≡ dose_at b at
      → doses_of b (places_from b (length b - at) at) ≡ dose ∷ doses_of b (places_from b (length b - end) end)
  weighed h k d = ap (doses_of b) walk ∙ doses_step b _ at ∙ rw (sym h ∙ k, d)

  pub remark : {w : Bool} → w ≡ is_weighed (kind_at b at) → w ≡ false
      → doses_of b (places_from b (length b - at) at) ≡ doses_of b (places_from b (length b - end) end)
  remark h k = ap (doses_of b) walk ∙ doses_step b _ at ∙ rw (sym h ∙ k)

pub no_doses : (b : List ℕ) (at : ℕ) → length b ≤ at → doses_of b (places_from b (length b - at) at) ≡ []
no_doses b at h = ap (doses_of b) (none b _ at h) ∙ doses_nil b

-- x is what the checks of all came to before the record at a place
module _ (known : ℕ → Bool) (b : List ℕ) (at : ℕ) (l : at < length b) {x : Verdict}
    (inv : x ≡ records_check known b (places_from b (length b - at) at)) where
  here : {end : ℕ} → end ≡ record_end b at
      → x ≡ both (record_check known b at) (records_check known b (places_from b (length b - end) end))
  here e = inv ∙ ap (records_check known b) (walk b at l e) ∙ check_step known b _ at

  pub turn : {end : ℕ} → end ≡ record_end b at → record_check known b at ≡ pass
      → x ≡ records_check known b (places_from b (length b - end) end)
  turn e k = here e ∙ both_pass k

  pub ends : (count sum : ℕ) {refused : Refusal} → record_check known b at ≡ Err refused → Err refused ≡ weighed_as x count sum
  ends count sum k = rw (here refl ∙ both_fail _ k)

-- whether a record is weighed, by its dose
has_dose : (b : List ℕ) (at : ℕ) {dose : Dose} → dose_of b at ≡ Some dose → (is_weighed (kind_at b at) ≡ true) × (dose ≡ dose_at b at)
has_dose b at {dose} h = go (is_weighed (kind_at b at)) refl h
  where
    go : (w : Bool) → is_weighed (kind_at b at) ≡ w → cond w (Some (dose_at b at)) None ≡ Some dose
        → (is_weighed (kind_at b at) ≡ true) × (dose ≡ dose_at b at)
    go true e k = (e, cc)
    go false e k = let z : ◌≡◌ {A = ℕ} 0 1 = cc in absurd (omega arith)

no_dose : (b : List ℕ) (at : ℕ) → dose_of b at ≡ None → is_weighed (kind_at b at) ≡ false
no_dose b at h = go (is_weighed (kind_at b at)) refl h
  where
    go : (w : Bool) → is_weighed (kind_at b at) ≡ w → cond w (Some (dose_at b at)) None ≡ None → is_weighed (kind_at b at) ≡ false
    go true e k = let z : ◌≡◌ {A = ℕ} 0 1 = cc in absurd (omega arith)
    go false e k = e

-- o is the record's dose, where it has one; what was counted or summed so far, with what is left, is n
module _ (b : List ℕ) (at : ℕ) (l : at < length b) {end : ℕ} (e : end ≡ record_end b at) {o : Option Dose} (h : o ≡ dose_of b at)
    (sofar : ℕ) {n : ℕ} where
  pub counted : {dose : Dose} → n ≡ sofar + length (doses_of b (places_from b (length b - at) at)) → o ≡ Some dose
      → n ≡ sofar + 1 + length (doses_of b (places_from b (length b - end) end))
  counted inv k = let d = ap length (weighed b at l e refl (has_dose b at (sym h ∙ k)).0 refl) in omega arith

  pub summed : {dose : Dose} {m : ℕ} → n ≡ sofar + sum_of (doses_of b (places_from b (length b - at) at)) → o ≡ Some dose
      → m ≡ dose.milligrams.0 → n ≡ sofar + m + sum_of (doses_of b (places_from b (length b - end) end))
  unfolding sum_of
  summed inv k q =
      let found = has_dose b at (sym h ∙ k) in
      let d = ap sum_of (weighed b at l e refl found.0 found.1) in
      omega arith

pub skipped : (f : List Dose → ℕ) (b : List ℕ) (at : ℕ) → at < length b → {end : ℕ} → end ≡ record_end b at
    → {o : Option Dose} → o ≡ dose_of b at → o ≡ None → (sofar : ℕ) {n : ℕ} → n ≡ sofar + f (doses_of b (places_from b (length b - at) at))
    → n ≡ sofar + f (doses_of b (places_from b (length b - end) end))
skipped f b at l e h k sofar inv = inv ∙ rw (remark b at l e refl (no_dose b at (sym h ∙ k)))

pub spent : (known : ℕ → Bool) (b : List ℕ) (at count sum : ℕ) {x : Verdict} {n m : ℕ}
    → x ≡ records_check known b (places_from b (length b - at) at)
    → n ≡ count + length (doses_of b (places_from b (length b - at) at))
    → m ≡ sum + sum_of (doses_of b (places_from b (length b - at) at))
    → length b ≤ at → Ok (record { count = count; sum = sum }) ≡ weighed_as x n m
unfolding sum_of
spent known b at count sum {n = n} {m = m} p q r h =
    let d = ap length (no_doses b at h) in
    let s = ap sum_of (no_doses b at h) in
    let n-eq : n ≡ count = omega arith in
    let m-eq : m ≡ sum = omega arith in
    rw (p ∙ ap (records_check known b) (none b _ at h) ∙ check_nil known b, n-eq, m-eq)
