-- Laws of `decimal_of` and `decimal_after`: digit, none, starts; one for each way through a turn: stops, turn, over, ends.
use Prim.Native.Nat.{ℕ, ◌+◌, ◌*◌, ◌-◌, ◌≤◌, ◌<◌}
use mathlib.Core.Path.{◌≡◌, refl, sym, ◌∙◌}
use mathlib.Core.List.{List, [], ◌∷◌}
use mathlib.Core.Bool.{Bool, true, false, ◌&&◌, and-false}
use lib.Dec.{leb}
use lib.ListN.{length, drop, get_or, drop_of_length-le}
use lib.Seq.{drop-cons}
use Rattle.std.proofs.Common.{Option, Some, None}
use native.Mathlib.Numerals.{add-one}
use native.Mathlib.Omega.{arith}
use borrow.Author.Tests.{le-leb, lt-leb, leb-true, lt-ltb, le-ltb}
use Rattle.std.specs.Char.{digit_value}
use Rattle.std.proofs.lemmas.Str.Parse.{digit_from_value}
use Rattle.text.specs.Decimal.{is_digit, all_digits, value_after, decimal_after, decimal_of}

pub digit : (b : ℕ) → 48 ≤ b → b ≤ 57 → is_digit b ≡ true
unfolding is_digit
digit b l h = rw (le-leb 48 b l, le-leb b 57 h)

digit_value_is : (b : ℕ) → 48 ≤ b → b ≤ 57 → digit_value b ≡ b - 48
digit_value_is b l h = rw (le-ltb b 48 l, lt-ltb b 58 (omega arith))

other : (b : ℕ) → 10 ≤ digit_value b → is_digit b ≡ false
unfolding is_digit
other b n = go (leb 48 b) (leb b 57) refl refl
  where
    go : (x y : Bool) → leb 48 b ≡ x → leb b 57 ≡ y → (x && y) ≡ false
    go true true e f =
        let l = leb-true 48 b e in
        let h = leb-true b 57 f in
        absurd (omega (arith, digit_value_is b l h))
    go true false e f = refl
    go false y e f = refl

taken : (v b : ℕ) (bs : List ℕ) → is_digit b ≡ true → decimal_after v (b ∷ bs) ≡ decimal_after (v * 10 + (b - 48)) bs
unfolding decimal_after all_digits value_after
taken v b bs h = rw h

refused : (v b : ℕ) (bs : List ℕ) → is_digit b ≡ false → None ≡ decimal_after v (b ∷ bs)
unfolding decimal_after all_digits
refused v b bs h = rw h

-- more digits make no number smaller
grows : (v : ℕ) (bs : List ℕ) → v ≤ value_after v bs
unfolding value_after
grows v [] = omega arith
grows v (b ∷ bs) = let k = grows (v * 10 + (b - 48)) bs in omega arith

too_large : (v : ℕ) (bs : List ℕ) → 0xFFFFFFFF < v → None ≡ decimal_after v bs
unfolding decimal_after
too_large v bs h =
    let k = grows v bs in
    let l : 0xFFFFFFFF < value_after v bs = omega arith in
    rw (lt-leb (value_after v bs) 0xFFFFFFFF l, and-false)

all_read : (v : ℕ) → v ≤ 0xFFFFFFFF → Some v ≡ decimal_after v []
unfolding decimal_after all_digits value_after
all_read v h = rw (le-leb v 0xFFFFFFFF h)

pub none : (word : List ℕ) → length word ≡ 0 → None ≡ decimal_of word
unfolding decimal_of
none [] h = refl
none (b ∷ bs) h = absurd (omega arith)

pub starts : (word : List ℕ) → (length word ≡ 0 → ⊥) → decimal_of word ≡ decimal_after 0 word
unfolding decimal_of
starts [] h = absurd (h refl)
starts (b ∷ bs) h = refl

-- the turn at place i, where the digits before it have the value v
module _ (word : List ℕ) (v i : ℕ) {z : Option ℕ} (inv : z ≡ decimal_after v (drop i word)) where
  next : i < length word → z ≡ decimal_after v (get_or word i 0 ∷ drop (i + 1) word)
  next l = rw (add-one, ← drop-cons word i 0) inv

  -- no digit
  pub stops : i < length word → 10 ≤ digit_value (get_or word i 0) → None ≡ z
  stops l n = refused v _ (drop (i + 1) word) (other (get_or word i 0) n) ∙ sym (next l)

  -- a digit
  module _ (l : i < length word) (h : digit_value (get_or word i 0) < 10) {d : ℕ} (e : digit_value (get_or word i 0) ≡ d) where
    pub turn : z ≡ decimal_after (v * 10 + d) (drop (i + 1) word)
    turn =
        let r = digit_from_value (get_or word i 0) h in
        let k : get_or word i 0 - 48 ≡ d = sym (digit_value_is (get_or word i 0) r.0 r.1) ∙ e in
        rw k at (next l ∙ taken v _ (drop (i + 1) word) (digit (get_or word i 0) r.0 r.1))

    pub over : 0xFFFFFFFF < v * 10 + d → None ≡ z
    over k = too_large _ (drop (i + 1) word) k ∙ sym turn

  pub ends : length word ≤ i → v ≤ 0xFFFFFFFF → Some v ≡ z
  ends l h = all_read v h ∙ sym (rw (drop_of_length-le word l) at inv)

-- the ways that `decimal` goes
pub ruleset ways = (none, starts, turn, over, ends)
