-- Laws of a run of checks: its first check (first) and its end (none, both_end, both_assoc), one for each way through a turn of
-- a loop over it (begun, turn, ends, spent), and a ladder as a first part and the rest (apart, apart_under).
use Prim.Native.Nat.{ℕ, suc, ◌+◌, ◌-◌, ◌≤◌, ◌<◌}
use mathlib.Core.Path.{◌≡◌, refl, sym, ◌∙◌}
use mathlib.Core.Bool.{Bool, true, false}
use native.Mathlib.Omega.{arith}
use Rattle.format.specs.Verdicts.{check, both, run_from, Verdict, pass}
use Rattle.format.specs.declared.verdict.Refusal.{Refusal}
use Rattle.format.proofs.VerdictLaws.{both_pass, both_fail}
use Rattle.std.specs.Prelude.{Ok, Err}

pub both_end : (v : Verdict) → both v pass ≡ v
unfolding both
both_end (Ok _) = refl
both_end (Err e) = refl

pub both_assoc : (u v w : Verdict) → both (both u v) w ≡ both u (both v w)
unfolding both
both_assoc (Ok _) v w = refl
both_assoc (Err e) v w = refl

-- one rung and what follows it; and where what follows is apart, so is the whole under one rung more
pub apart : (ok : Bool) (number place : ℕ) (rest : Verdict) → check ok number place rest ≡ both (check ok number place pass) rest
unfolding check both
apart true number place rest = refl
apart false number place rest = refl

pub apart_under : (ok : Bool) (number place : ℕ) (rest part : Verdict) {whole : Verdict} → whole ≡ both part rest
    → check ok number place whole ≡ both (check ok number place part) rest
unfolding check both
apart_under true number place rest part h = h
apart_under false number place rest part h = refl

module _ (checkAt : ℕ → Verdict) where
  pub first : (n i : ℕ) → run_from checkAt (suc n) i ≡ both (checkAt i) (run_from checkAt n (i + 1))
  unfolding run_from
  first n i = refl

  pub none : (i : ℕ) → run_from checkAt 0 i ≡ pass
  unfolding run_from
  none i = refl

  pub begun : (to : ℕ) → run_from checkAt to 0 ≡ run_from checkAt (to - 0) 0
  begun to = let k : to - 0 ≡ to = omega arith in rw k

  unrolled : (to i : ℕ) → i < to → run_from checkAt (to - i) i ≡ both (checkAt i) (run_from checkAt (to - (i + 1)) (i + 1))
  unrolled to i l =
      let k : to - i ≡ suc (to - (i + 1)) = omega arith in
      rw k (first (to - (i + 1)) i)

  -- in the shape of what is known in a turn: v is what the run began with, r what check i found
  module _ (to i : ℕ) {v : Verdict} (inv : v ≡ run_from checkAt (to - i) i) where
    module _ {r : Verdict} (p : r ≡ checkAt i) (h : i < to) where
      pub turn : r ≡ pass → v ≡ run_from checkAt (to - (i + 1)) (i + 1)
      turn k = inv ∙ unrolled to i h ∙ both_pass (sym p ∙ k)

      pub ends : {e : Refusal} → r ≡ Err e → Err e ≡ v
      ends k = sym (inv ∙ unrolled to i h ∙ both_fail _ (sym p ∙ k))

    pub spent : to ≤ i → pass ≡ v
    spent l = let k : to - i ≡ 0 = omega arith in sym (inv ∙ rw k (none i))
