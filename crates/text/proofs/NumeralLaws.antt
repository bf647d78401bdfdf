-- Laws of `numeral_of`: numeral_one, numeral_tens, length_numeral_le, length_one, length_tens.
use Prim.Native.Nat.{ℕ, zero, suc, ◌+◌, ◌^◌, ◌/◌, ◌%◌, ◌≤◌, ◌<◌}
use mathlib.Core.Path.{◌≡◌, refl, sym, ap, ◌∙◌}
use mathlib.Core.List.{[], ◌∷◌, ◌++◌}
use mathlib.Core.Bool.{Bool, true, false, cond}
use lib.Dec.{ltb}
use lib.ListN.{length, length-append}
use native.Mathlib.Omega.{arith}
use borrow.Author.Tests.{lt-ltb, le-ltb, ltb-true, ltb-false}
use Rattle.text.specs.Lines.{digits_of, numeral_of}

single : (k n : ℕ) → n < 10 → digits_of (suc k) n ≡ (48 + n) ∷ []
unfolding digits_of
single k n h = rw (lt-ltb n 10 h)

tens : (k n : ℕ) → 10 ≤ n → digits_of (suc k) n ≡ digits_of k (n / 10) ++ (48 + n % 10) ∷ []
unfolding digits_of
tens k n h = rw (le-ltb n 10 h)

-- room for one digit more changes nothing
enough : (k n : ℕ) → n < 10 ^ suc k → digits_of (suc k) n ≡ digits_of (suc (suc k)) n
enough zero n h = single zero n (omega arith) ∙ sym (single 1 n (omega arith))
enough (suc k) n h = go (ltb n 10) refl (enough k (n / 10))
  where
    go : (b : Bool) → ltb n 10 ≡ b
        → (n / 10 < 10 ^ suc k → digits_of (suc k) (n / 10) ≡ digits_of (suc (suc k)) (n / 10))
        → digits_of (suc (suc k)) n ≡ digits_of (suc (suc (suc k))) n
    go true e f =
        let l : n < 10 = ltb-true n 10 e in
        single (suc k) n l ∙ sym (single (suc (suc k)) n l)
    go false e f =
        let l : 10 ≤ n = ltb-false n 10 e in
        rw (tens (suc k) n l, tens (suc (suc k)) n l, f (omega arith))

pub numeral_one : (n : ℕ) → n < 10 → numeral_of n ≡ (48 + n) ∷ []
unfolding numeral_of
numeral_one n h = single 9 n h

pub numeral_tens : (n : ℕ) → 10 ≤ n → n < 4294967296 → numeral_of n ≡ numeral_of (n / 10) ++ (48 + n % 10) ∷ []
unfolding numeral_of
numeral_tens n l h = rw (tens 9 n l, enough 8 (n / 10) (omega arith))

length_digits_le : (k n : ℕ) → length (digits_of k n) ≤ k
unfolding digits_of
length_digits_le zero n = omega arith
length_digits_le (suc k) n = go (ltb n 10) (length_digits_le k (n / 10))
  where
    go : (b : Bool) → length (digits_of k (n / 10)) ≤ k
        → length (cond b ((48 + n) ∷ []) (digits_of k (n / 10) ++ (48 + n % 10) ∷ [])) ≤ suc k
    go true h = omega arith
    go false h = simp length-append (omega arith)

pub length_numeral_le : (n : ℕ) → length (numeral_of n) ≤ 10
unfolding numeral_of
length_numeral_le n = length_digits_le 10 n

pub length_one : (n : ℕ) → n < 10 → length (numeral_of n) ≡ 1
length_one n h = ap length (numeral_one n h)

pub length_tens : (n : ℕ) → 10 ≤ n → n < 4294967296 → length (numeral_of n) ≡ length (numeral_of (n / 10)) + 1
length_tens n l h = ap length (numeral_tens n l h) ∙ simp length-append
