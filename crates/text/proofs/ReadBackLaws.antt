-- A numeral, read as a decimal word, is its number: read-back.
use Prim.Native.Nat.{ℕ, zero, suc, ◌+◌, ◌*◌, ◌-◌, ◌^◌, ◌/◌, ◌%◌, ◌≤◌, ◌<◌}
use mathlib.Core.Path.{◌≡◌, refl, ◌∙◌}
use mathlib.Core.List.{List, [], ◌∷◌, ◌++◌}
use mathlib.Core.Bool.{Bool, true, false, ◌&&◌, cond, and_assoc}
use lib.Dec.{ltb}
use lib.ListN.{length, length-append}
use native.Mathlib.Omega.{arith}
use borrow.Author.Tests.{le-leb, ltb-true}
use Rattle.std.proofs.Common.{Some}
use Rattle.text.specs.Decimal.{all_digits, value_after, decimal_after, decimal_of}
use Rattle.text.specs.Lines.{digits_of, numeral_of}
use Rattle.text.proofs.DecimalLaws.{digit, starts}

value_append : (v : ℕ) (xs ys : List ℕ) → value_after v (xs ++ ys) ≡ value_after (value_after v xs) ys
unfolding value_after
value_append v [] ys = refl
value_append v (x ∷ xs) ys = value_append (v * 10 + (x - 48)) xs ys

all_append : (xs ys : List ℕ) → all_digits (xs ++ ys) ≡ (all_digits xs && all_digits ys)
unfolding all_digits
all_append [] ys = refl
all_append (x ∷ xs) ys = rw (all_append xs ys, ← and_assoc)

all_digits_lem : (k n : ℕ) → all_digits (digits_of k n) ≡ true
unfolding digits_of all_digits
all_digits_lem zero n = refl
all_digits_lem (suc k) n = go (ltb n 10) refl (all_digits_lem k (n / 10))
  where
    go : (b : Bool) → ltb n 10 ≡ b → all_digits (digits_of k (n / 10)) ≡ true
        → all_digits (cond b ((48 + n) ∷ []) (digits_of k (n / 10) ++ (48 + n % 10) ∷ [])) ≡ true
    go true e h = rw (digit (48 + n) (omega arith) (omega (arith, ltb-true n 10 e)))
    go false e h = rw (all_append, h, digit (48 + n % 10) (omega arith) (omega arith))

value_digits : (k n : ℕ) → n < 10 ^ k → value_after 0 (digits_of k n) ≡ n
unfolding digits_of value_after
value_digits zero n h = omega arith
value_digits (suc k) n h = go (ltb n 10) (value_digits k (n / 10))
  where
    go : (b : Bool) → (n / 10 < 10 ^ k → value_after 0 (digits_of k (n / 10)) ≡ n / 10)
        → value_after 0 (cond b ((48 + n) ∷ []) (digits_of k (n / 10) ++ (48 + n % 10) ∷ [])) ≡ n
    go true f = omega arith
    go false f = rw (value_append, f (omega arith)) (omega arith)

some_digit : (k n : ℕ) → length (digits_of (suc k) n) ≡ 0 → ⊥
unfolding digits_of
some_digit k n = go (ltb n 10)
  where
    go : (b : Bool) → length (cond b ((48 + n) ∷ []) (digits_of k (n / 10) ++ (48 + n % 10) ∷ [])) ≡ 0 → ⊥
    go true h = omega arith
    go false h = omega (arith, length-append (digits_of k (n / 10)) ((48 + n % 10) ∷ []))

pub read_back : (n : ℕ) → n ≤ 0xFFFFFFFF → decimal_of (numeral_of n) ≡ Some n
unfolding numeral_of decimal_after
read_back n h =
    starts (digits_of 10 n) (some_digit 9 n)
    ∙ rw (all_digits_lem 10 n, value_digits 10 n (omega arith), le-leb n 0xFFFFFFFF h)
