-- Laws of flags: a word with one bit more (stored), a flag that was set is found (set_now), those that were set before it stay
-- set (set_still), and the words stay 64 (still_64).
use Prim.Native.Nat.{ℕ, zero, suc, ◌*◌, ◌/◌, ◌%◌, ◌^◌, ◌<◌}
use mathlib.Core.Path.{◌≡◌, refl, sym, ap, ◌∙◌}
use mathlib.Core.List.{List}
use mathlib.Core.Bool.{Bool, true, false}
use lib.Bits.{bit_or, or_comm, or_shr, or_mod}
use lib.Pow.{shl_exact, shl-shr}
use lib.ListN.{length, get_or, set, length-set}
use lib.Seq.{get_or-set_same, get_or-set_other}
use lib.Dec.{eqb}
use native.Mathlib.Omega.{arith}
use native.Mathlib.Nat.{one-mul}
use borrow.Author.Tests.{eq-eqb, eqb-true, eqb-false}
use Rattle.flags.specs.Flags.{word_of, bit_of, is_set, marked}

one_bit : (n : ℕ) → 1 * 2 ^ bit_of n % 2 ^ 64 ≡ 2 ^ bit_of n
one_bit n = shl_exact 1 (bit_of n) 64 (omega arith) (omega arith) ∙ one-mul (2 ^ bit_of n)

pub stored : (flags : List ℕ) (n : ℕ)
    → set flags (word_of n) (bit_or (get_or flags (word_of n) 0) (1 * 2 ^ bit_of n % 2 ^ 64)) ≡ marked flags n
unfolding marked
stored flags n = rw (one_bit n)

one_or : (d : ℕ) → d < 2 → bit_or 1 d ≡ 1
one_or zero l = refl
one_or (suc zero) l = refl
one_or (suc (suc d)) l = absurd (omega arith)

-- the bit of one of two words is the bit of both
or_bit : (a b k : ℕ) → a / 2 ^ k % 2 ≡ 1 → bit_or a b / 2 ^ k % 2 ≡ 1
or_bit a b k h =
    ap (λ (x : ℕ). x % 2) (or_shr a b k) ∙ or_mod (a / 2 ^ k) (b / 2 ^ k) 1
    ∙ ap (λ (x : ℕ). bit_or x (b / 2 ^ k % 2)) h ∙ one_or (b / 2 ^ k % 2) (omega arith)

own_bit : (a k : ℕ) → bit_or a (2 ^ k) / 2 ^ k % 2 ≡ 1
own_bit a k =
    ap (λ (x : ℕ). x / 2 ^ k % 2) (or_comm a (2 ^ k))
    ∙ or_bit (2 ^ k) a k (ap (λ (x : ℕ). x % 2) (ap (λ (x : ℕ). x / 2 ^ k) (sym (one-mul (2 ^ k))) ∙ shl-shr 1 k))

module _ (flags : List ℕ) (n : ℕ) (l : length flags ≡ 64) where
  word : get_or (marked flags n) (word_of n) 0 ≡ bit_or (get_or flags (word_of n) 0) (2 ^ bit_of n)
  unfolding marked
  word = get_or-set_same flags (word_of n) (bit_or (get_or flags (word_of n) 0) (2 ^ bit_of n)) 0 (omega arith)

  pub set_now : is_set (marked flags n) n ≡ true
  unfolding is_set
  set_now =
      eq-eqb (get_or (marked flags n) (word_of n) 0 / 2 ^ bit_of n % 2) 1
      (ap (λ (x : ℕ). x / 2 ^ bit_of n % 2) word ∙ own_bit (get_or flags (word_of n) 0) (bit_of n))

  other : (k : ℕ) → (k ≡ word_of n → ⊥) → get_or (marked flags n) k 0 ≡ get_or flags k 0
  unfolding marked
  other k h = get_or-set_other flags (word_of n) k (bit_or (get_or flags (word_of n) 0) (2 ^ bit_of n)) 0 h

  pub set_still : (m : ℕ) → is_set flags m ≡ true → is_set (marked flags n) m ≡ true
  unfolding is_set
  set_still m h = eq-eqb _ 1 (go (eqb (word_of m) (word_of n)) refl)
    where
      was : get_or flags (word_of m) 0 / 2 ^ bit_of m % 2 ≡ 1
      was = eqb-true (get_or flags (word_of m) 0 / 2 ^ bit_of m % 2) 1 h

      go : (b : Bool) → eqb (word_of m) (word_of n) ≡ b → get_or (marked flags n) (word_of m) 0 / 2 ^ bit_of m % 2 ≡ 1
      go true e =
          let same : word_of m ≡ word_of n = eqb-true (word_of m) (word_of n) e in
          ap (λ (x : ℕ). get_or (marked flags n) x 0 / 2 ^ bit_of m % 2) same
          ∙ ap (λ (x : ℕ). x / 2 ^ bit_of m % 2) word
          ∙ or_bit (get_or flags (word_of n) 0) (2 ^ bit_of n) (bit_of m) (ap (λ (x : ℕ). get_or flags x 0 / 2 ^ bit_of m % 2) (sym same) ∙ was)
      go false e =
          ap (λ (x : ℕ). x / 2 ^ bit_of m % 2)
          (other (word_of m) (eqb-false (word_of m) (word_of n) e))
          ∙ was

  pub still_64 : {after : List ℕ} → after ≡ marked flags n → length after ≡ 64
  unfolding marked
  still_64 p = rw p (length-set flags (word_of n) (bit_or (get_or flags (word_of n) 0) (2 ^ bit_of n)) ∙ l)
