-- A run of checks passes exactly where each of its checks does (run_passes), and fails as the first of them that fails
-- (run_fails).
use Prim.Native.Nat.{ℕ, zero, suc, ◌+◌, ◌≤◌, ◌<◌}
use mathlib.Core.Path.{◌≡◌, refl, sym, subst, ◌∙◌}
use mathlib.Core.Logic.{◌↔◌}
use mathlib.Core.Bool.{Bool, true, false}
use lib.Dec.{ltb}
use native.Mathlib.Omega.{arith}
use borrow.Author.Tests.{ltb-true, ltb-false}
use Rattle.format.specs.Verdicts.{run_from, Verdict, pass, refusal}
use Rattle.format.proofs.VerdictLaws.{both_pass, both_fail, both_inverted}
use Rattle.format.proofs.RunLaws as run
use Rattle.std.specs.Prelude.{Ok, Err}

-- the first of n checks from number i on that fails
pub record First (checkAt : ℕ → Verdict) (n i number place : ℕ) : Type 0 where
  pub which : ℕ
  pub from : i ≤ which
  pub within : which < i + n
  pub fails : checkAt which ≡ Err (refusal number place)
  pub before : (k : ℕ) → i ≤ k → k < which → checkAt k ≡ pass

-- what holds of number i and of those behind it
from_next : {i : ℕ} (P : ℕ → Type 0) → P i → ((k : ℕ) → i + 1 ≤ k → P k) → (k : ℕ) → i ≤ k → P k
from_next {i} P p q k l = go (ltb i k) refl
  where
    go : (b : Bool) → ltb i k ≡ b → P k
    go true h = let m = ltb-true i k h in q k (omega arith)
    go false h = let m = ltb-false i k h in let e : i ≡ k = omega arith in subst P e p

-- two verdicts that differ
pub pass_not_fail : {number place : ℕ} → pass ≡ Err (refusal number place) → ⊥
pass_not_fail h = let z : ◌≡◌ {A = ℕ} 0 1 = cc in omega arith

module _ (checkAt : ℕ → Verdict) where
  abbrev Passes : ℕ → ℕ → Type 0
  Passes n i = (k : ℕ) → i ≤ k → k < i + n → checkAt k ≡ pass

  each_passes : (n i : ℕ) → run_from checkAt n i ≡ pass → Passes n i
  each_passes zero i h = λ k l m. absurd (omega arith)
  each_passes (suc n) i h =
      let p = both_inverted (checkAt i) (run_from checkAt n (i + 1)) (sym (run.first checkAt n i) ∙ h) in
      from_next (λ (j : ℕ). j < i + suc n → checkAt j ≡ pass) (λ q. p.0)
      (λ j r q. each_passes n (i + 1) p.1 j r (omega arith))

  run_of_each : (n i : ℕ) → Passes n i → run_from checkAt n i ≡ pass
  run_of_each zero i h = run.none checkAt i
  run_of_each (suc n) i h =
      run.first checkAt n i ∙ both_pass (h i (omega arith) (omega arith))
      ∙ run_of_each n (i + 1) (λ k l m. h k (omega arith) (omega arith))

  pub run_passes : (n i : ℕ) → (run_from checkAt n i ≡ pass) ↔ Passes n i
  run_passes n i = (each_passes n i, run_of_each n i)

  module _ {number place : ℕ} where
    first_of_run : (n i : ℕ) → run_from checkAt n i ≡ Err (refusal number place) → First checkAt n i number place
    first_of_run zero i h = absurd (pass_not_fail (sym (run.none checkAt i) ∙ h))
    first_of_run (suc n) i h = go (checkAt i) refl (first_of_run n (i + 1))
      where
        go : (v : Verdict) → checkAt i ≡ v
            → (run_from checkAt n (i + 1) ≡ Err (refusal number place) → First checkAt n (i + 1) number place)
            → First checkAt (suc n) i number place
        go (Ok _) e later =
            let f = later (sym (run.first checkAt n i ∙ both_pass e) ∙ h) in
            record {
              which = f.which;
              from = let l = f.from in omega arith;
              within = let l = f.within in omega arith;
              fails = f.fails;
              before = from_next (λ (j : ℕ). j < f.which → checkAt j ≡ pass) (λ q. e) f.before;
            }
        go (Err refused) e later =
            record {
              which = i;
              from = omega arith;
              within = omega arith;
              fails = e ∙ sym (both_fail (run_from checkAt n (i + 1)) e) ∙ sym (run.first checkAt n i) ∙ h;
              before = λ k l m. absurd (omega arith);
            }

    run_of_first : (n i : ℕ) → First checkAt n i number place → run_from checkAt n i ≡ Err (refusal number place)
    run_of_first zero i f = let l = f.from in let m = f.within in absurd (omega arith)
    run_of_first (suc n) i f = go (ltb i f.which) refl (run_of_first n (i + 1))
      where
        go : (b : Bool) → ltb i f.which ≡ b
            → (First checkAt n (i + 1) number place → run_from checkAt n (i + 1) ≡ Err (refusal number place))
            → run_from checkAt (suc n) i ≡ Err (refusal number place)
        go true t later =
            let l = ltb-true i f.which t in
            run.first checkAt n i ∙ both_pass (f.before i (omega arith) l)
            ∙ later (record {
              which = f.which;
              from = omega arith;
              within = let m = f.within in omega arith;
              fails = f.fails;
              before = λ k m. f.before k (omega arith);
            })
        go false t later =
            let l = f.from in
            let m = ltb-false i f.which t in
            let e : f.which ≡ i = omega arith in
            run.first checkAt n i ∙ both_fail _ (rw e at f.fails)

    pub run_fails : (n i : ℕ) → (run_from checkAt n i ≡ Err (refusal number place)) ↔ First checkAt n i number place
    run_fails n i = (first_of_run n i, run_of_first n i)
