-- How a run of checks goes on or stops.
use Prim.Native.Nat.{ℕ}
use mathlib.Core.Path.{◌≡◌, refl, sym, ap, ◌∙◌}
use mathlib.Core.Logic.{◌⊎◌, inl, inr}
use mathlib.Core.Bool.{Bool, true, false, not}
use lib.Dec.{eqb}
use borrow.Author.Tests.{eq-eqb, ne_eqb, le-leb, lt-leb, not-true, not-false}
use native.Mathlib.Omega.{arith}
use Rattle.format.specs.Verdicts.{check, both, Verdict, pass, refusal}
use Rattle.std.specs.Prelude.{Result, Ok, Err, IsErr, IsErrAnd}
use Rattle.format.specs.declared.verdict.Refusal.{Refusal}

-- refusals that are the same have one number and one place
pub refusal_same : {A : Type 0} {a b : Refusal} → ◌≡◌ {A = Result A Refusal} (Err a) (Err b) → (a.number ≡ b.number) × (a.place ≡ b.place)
refusal_same {a = a} {b = b} h =
    let e : a ≡ b = cc in (ap (λ (r : Refusal). r.number) e, ap (λ (r : Refusal). r.place) e)

-- what `?` hands on is the refusal that it met
pub handed : {A : Type 0} {r : Result A Refusal} {e : Refusal} → IsErr r × IsErrAnd r (λ x. x ≡ e) → r ≡ Err e
handed {r = Ok a} h = let z : ◌≡◌ {A = Bool} false true = h.0 in let y : ◌≡◌ {A = ℕ} 0 1 = cc in absurd (omega arith)
handed {r = Err x} h = ap Err h.1

pub passed : {ok : Bool} (number place : ℕ) {v rest : Verdict} → ok ≡ true → v ≡ rest → v ≡ check ok number place rest
unfolding check
passed number place h k = rw h k

pub stopped : {ok : Bool} {number place : ℕ} (rest : Verdict) → ok ≡ false → Err (refusal number place) ≡ check ok number place rest
unfolding check
stopped rest h = rw h

pub both_pass : {v rest : Verdict} → v ≡ pass → both v rest ≡ rest
unfolding both
both_pass h = rw h

pub both_fail : {v : Verdict} (rest : Verdict) {e : Refusal} → v ≡ Err e → both v rest ≡ Err e
unfolding both
both_fail rest h = rw h

-- a run of checks that passed: its first check passed, and so did the rest
pub inverted : (ok : Bool) (number place : ℕ) (rest : Verdict) → check ok number place rest ≡ pass → (ok ≡ true) × (rest ≡ pass)
unfolding check
inverted true number place rest h = (refl, h)
inverted false number place rest h = let z : ◌≡◌ {A = ℕ} 0 1 = cc in absurd (omega arith)

pub both_inverted : (v rest : Verdict) → both v rest ≡ pass → (v ≡ pass) × (rest ≡ pass)
unfolding both
both_inverted (Ok _) rest h = (refl, h)
both_inverted (Err e) rest h = let z : ◌≡◌ {A = ℕ} 0 1 = cc in absurd (omega arith)

-- a run that failed: its first part did, or passed and the rest did
pub both_failed : (v rest : Verdict) {refused : Refusal} → both v rest ≡ Err refused
    → (v ≡ Err refused) ⊎ ((v ≡ pass) × (rest ≡ Err refused))
unfolding both
both_failed (Ok _) rest h = inr (refl, h)
both_failed (Err e) rest h = inl h

pub ne_not : (m n : ℕ) → (m ≡ n → ⊥) → not (eqb m n) ≡ true
ne_not m n h = ap not (ne_eqb m n h)

pub eq_not : (m n : ℕ) → m ≡ n → not (eqb m n) ≡ false
eq_not m n h = ap not (eq-eqb m n h)

-- a test's value from the fact that it tests
pub ruleset tests = (le-leb, lt-leb, eq-eqb, ne_eqb, ne_not, eq_not)

-- what a test of a callee's answer says of the definition that the answer equals
pub told : {r t : Bool} → r ≡ t → not r ≡ false → t ≡ true
told {r} e h = sym e ∙ not-false r h

pub untold : {r t : Bool} → r ≡ t → not r ≡ true → t ≡ false
untold {r} e h = sym e ∙ not-true r h

pub told_not : {r t : Bool} → r ≡ t → r ≡ false → not t ≡ true
told_not e h = ap not (sym e ∙ h)

pub untold_not : {r t : Bool} → r ≡ t → r ≡ true → not t ≡ false
untold_not e h = ap not (sym e ∙ h)

pub ruleset answers = (told, untold, told_not, untold_not)

-- a run of checks, part by part: r is what a part found
pub went : {r v w rest : Verdict} → r ≡ v → r ≡ pass → w ≡ rest → w ≡ both v rest
unfolding both
went p h k = rw (sym p ∙ h) k

pub halted : {r v : Verdict} {e : Refusal} (rest : Verdict) → r ≡ v → r ≡ Err e → Err e ≡ both v rest
unfolding both
halted rest p h = rw (sym p ∙ h)
