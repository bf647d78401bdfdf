-- For callers: what a weighed book says of its bytes (weighed_doses, weighed_unsound, few_doses), and what a book that
-- passed 19 to 22 is (pass_length, pass_records, pass_first, record_pass, lawful_pass).
use Prim.Native.Nat.{ℕ, zero, suc, ◌≤◌}
use mathlib.Core.Path.{◌≡◌, refl, sym, ap, ◌∙◌}
use mathlib.Core.List.{List, [], ◌∷◌}
use mathlib.Core.Bool.{Bool, true, false, cond, ◌&&◌}
use lib.ListN.{length}
use lib.Dec.{leb}
use native.Mathlib.Omega.{arith}
use borrow.Author.Tests.{leb-true}
use Rattle.format.proofs.VerdictLaws.{inverted, both_inverted}
use Rattle.book.specs.declared.dose.Dose.{Dose}
use Rattle.book.specs.declared.Weighed.{Weighed}
use Rattle.book.specs.Kinds.{is_weighed, is_known}
use Rattle.book.specs.Book.{book_limit, kind_at, record_end, places_from, places, dose_at, kind_allowed, weighed_right, weight_lawful, dose_lawful, record_check, records_check, length_check, book_check}
use Rattle.book.specs.Doses.{doses_by, doses_of, doses, sum_of, weighed_as, weighed}
use Rattle.std.specs.Prelude.{Result, Ok, Err}
use Rattle.format.specs.Verdicts.{Verdict, pass}
use Rattle.format.specs.declared.verdict.Refusal.{Refusal}

-- 22: oxide is 1 to 999, milligrams 1 to 5,000,000
and_true : (a b : Bool) → (a && b) ≡ true → (a ≡ true) × (b ≡ true)
and_true true b h = (refl, h)
and_true false b h = let z : ◌≡◌ {A = ℕ} 0 1 = cc in absurd (omega arith)

pub lawful_pass : (dose : Dose) → dose_lawful dose ≡ true
    → (1 ≤ dose.oxide.0) × (dose.oxide.0 ≤ 999) × (1 ≤ dose.milligrams.0) × (dose.milligrams.0 ≤ 5000000)
unfolding weight_lawful
lawful_pass dose h =
    let k = and_true _ _ h in
    let j = and_true _ _ k.0 in
    let i = and_true _ _ j.0 in
    (leb-true _ _ i.0, leb-true _ _ i.1, leb-true _ _ j.1, leb-true _ _ k.1)

module _ (known : ℕ → Bool) (b : List ℕ) where
  -- 20 to 22 of one record
  pub record_pass : (at : ℕ) → record_check known b at ≡ pass
      → (kind_allowed known (kind_at b at) ≡ true) × (record_end b at ≤ length b) × (weighed_right b at ≡ true)
  unfolding record_check
  record_pass at h =
      let k = inverted _ _ _ _ h in
      let j = inverted _ _ _ _ k.1 in
      let i = inverted _ _ _ _ j.1 in
      (k.0, leb-true _ _ j.0, i.0)

  pub pass_first : (at : ℕ) (rest : List ℕ) → records_check known b (at ∷ rest) ≡ pass
      → (record_check known b at ≡ pass) × (records_check known b rest ≡ pass)
  unfolding records_check
  pass_first at rest h = both_inverted _ _ h

  module _ (h : book_check known b ≡ pass) where
    pub pass_length : length b ≤ book_limit
    unfolding book_check length_check
    pass_length = leb-true (length b) book_limit (inverted _ _ _ _ (both_inverted _ _ h).0).0

    pub pass_records : records_check known b (places b) ≡ pass
    unfolding book_check
    pass_records = (both_inverted _ _ h).1

-- at most one dose to a byte
places_few : (b : List ℕ) (n at : ℕ) → length (places_from b n at) ≤ n
unfolding places_from
places_few b zero at = omega arith
places_few b (suc n) at = go (leb (length b) at) (places_few b n (record_end b at))
  where
    go : (t : Bool) → length (places_from b n (record_end b at)) ≤ n
        → length (cond t [] (at ∷ places_from b n (record_end b at))) ≤ suc n
    go true h = omega arith
    go false h = omega arith

doses_few : (b ps : List ℕ) → length (doses_of b ps) ≤ length ps
unfolding doses_by
doses_few b [] = omega arith
doses_few b (at ∷ rest) = go (is_weighed (kind_at b at)) (doses_few b rest)
  where
    go : (t : Bool) → length (doses_of b rest) ≤ length rest
        → length (cond t (dose_at b at ∷ doses_of b rest) (doses_of b rest)) ≤ suc (length rest)
    go true h = omega arith
    go false h = omega arith

by_doses : (v : Verdict) (n m : ℕ) {w : Weighed} → weighed_as v n m ≡ Ok w → (v ≡ pass) × (w.count ≡ n) × (w.sum ≡ m)
by_doses (Ok _) n m {w} h =
    let e : w ≡ record { count = n; sum = m } = cc in
    (refl, ap (λ (w : Weighed). w.count) e, ap (λ (w : Weighed). w.sum) e)
by_doses (Err e) n m h = let z : ◌≡◌ {A = ℕ} 0 1 = cc in absurd (omega arith)

by_unsound : (v : Verdict) (n m : ℕ) {refused : Refusal} → weighed_as v n m ≡ Err refused → v ≡ Err refused
by_unsound (Ok _) n m h = let z : ◌≡◌ {A = ℕ} 0 1 = cc in absurd (omega arith)
by_unsound (Err e) n m h = cc

-- r is the answer of `weigh`
module _ (edition : ℕ) (b : List ℕ) {r : Result Weighed Refusal} (h : r ≡ weighed edition b) where
  pub weighed_doses : {w : Weighed} → r ≡ Ok w
      → (book_check (is_known edition) b ≡ pass) × (w.count ≡ length (doses b)) × (w.sum ≡ sum_of (doses b))
  unfolding weighed
  weighed_doses k = by_doses _ _ _ (sym h ∙ k)

  pub weighed_unsound : {refused : Refusal} → r ≡ Err refused → book_check (is_known edition) b ≡ Err refused
  unfolding weighed
  weighed_unsound k = by_unsound _ _ _ (sym h ∙ k)

  pub few_doses : {w : Weighed} → r ≡ Ok w → w.count ≤ book_limit
  few_doses k =
      let d = weighed_doses k in
      let l = pass_length (is_known edition) b d.0 in
      omega (arith, d.1, doses_few b (places b), places_few b (length b) 0)
