-- A choice, from the case that was found (first_of, second_of), and a test of two numbers, from the answer of the function
-- that one of them is (same_number, other_number).
use Rattle.std.proofs.Common.{ℕ, ◌≡◌, sym, ◌∙◌, Bool, true, false, cond, eqb, eq-eqb, ne_eqb}

pub first_of : {A : Type 0} {t : Bool} {v x : A} (y : A) → t ≡ true → v ≡ x → v ≡ cond t x y
first_of y h k = rw h k

pub second_of : {A : Type 0} {t : Bool} {v y : A} (x : A) → t ≡ false → v ≡ y → v ≡ cond t x y
second_of x h k = rw h k

pub same_number : {r t n : ℕ} → r ≡ t → r ≡ n → eqb t n ≡ true
same_number {t = t} {n = n} p h = eq-eqb t n (sym p ∙ h)

pub other_number : {r t n : ℕ} → r ≡ t → (r ≡ n → ⊥) → eqb t n ≡ false
other_number {t = t} {n = n} p h = ne_eqb t n (λ e. h (p ∙ e))
