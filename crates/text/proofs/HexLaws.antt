-- Laws of `hex_of`; of the loop of `hex`: turn, ends; of its answer: within; of a line of sixteen bytes: line_of_sixteen.
use Prim.Native.Nat.{ℕ, suc, ◌+◌, ◌*◌, ◌/◌, ◌%◌, ◌≤◌, ◌<◌, min}
use mathlib.Core.Path.{◌≡◌, refl, ap, ◌∙◌}
use mathlib.Core.List.{List, [], ◌∷◌, ◌++◌, append_assoc}
use lib.ListN.{length, take, drop, get_or, set, replicate, length-append, length-take}
use lib.Seq.{take-suc, take_all, drop-cons, set_at}
use Rattle.std.proofs.Common.{get_or-take}
use native.Mathlib.Numerals.{add-one}
use native.Mathlib.Omega.{arith}
use Rattle.text.specs.Hex.{hex_digit, hex_of, hex_line, shown, Spelled}

length_hex_of : (bs : List ℕ) → length (hex_of bs) ≡ 2 * length bs
unfolding hex_of
length_hex_of [] = refl
length_hex_of (b ∷ bs) = let k = length_hex_of bs in omega arith

hex_of_append : (xs ys : List ℕ) → hex_of (xs ++ ys) ≡ hex_of xs ++ hex_of ys
unfolding hex_of
hex_of_append [] ys = refl
hex_of_append (x ∷ xs) ys = rw (hex_of_append xs ys)

-- two stores in a row
set_two : (p : List ℕ) (x y : ℕ) (ys : List ℕ) (a b n : ℕ) → length p ≡ n
    → set (set (p ++ x ∷ y ∷ ys) n a) (n + 1) b ≡ p ++ a ∷ b ∷ ys
set_two p x y ys a b n h =
    let k : length (p ++ a ∷ []) ≡ n + 1 = simp length-append (omega arith) in
    rw (set_at p x (y ∷ ys) a n h) (simp append_assoc at (set_at (p ++ a ∷ []) y ys b (n + 1) k))

drop_two : (s : List ℕ) (n : ℕ) → n + 1 < length s → drop n s ≡ get_or s n 0 ∷ get_or s (n + 1) 0 ∷ drop (n + 2) s
drop_two s n h =
    let k : n < length s = omega arith in
    let e : n + 2 ≡ suc (n + 1) = omega arith in
    rw (e, ← drop-cons s (n + 1) 0 h, add-one, ← drop-cons s n 0 k)

hex_of_take_suc : (s : List ℕ) (i : ℕ) → i < length s
    → hex_of (take (i + 1) s) ≡ hex_of (take i s) ++ hex_digit (get_or s i 0 / 16) ∷ hex_digit (get_or s i 0 % 16) ∷ []
unfolding hex_of
hex_of_take_suc s i h = rw (add-one, take-suc s i 0 h) (hex_of_append (take i s) (get_or s i 0 ∷ []))

-- the loop of `hex` after i bytes, of the n that fit
module _ (src before : List ℕ) (n i : ℕ) (fit : n ≡ min (length src) (length before / 2))
    {out : List ℕ} (inv : out ≡ hex_of (take i src) ++ drop (2 * i) before) where
  shown_length : length (take n src) ≡ n
  shown_length = length-take n src ∙ omega arith

  pub turn : i < length (take n src) → {x y : ℕ} → x ≡ hex_digit (get_or (take n src) i 0 / 16)
      → y ≡ hex_digit (get_or (take n src) i 0 % 16)
      → set (set out (2 * i) x) (2 * i + 1) y ≡ hex_of (take (i + 1) src) ++ drop (2 * (i + 1)) before
  turn l {x} {y} e f =
      let m = shown_length in
      let p = hex_of (take i src) in
      let h : length p ≡ 2 * i = length_hex_of (take i src) ∙ simp length-take (omega arith) in
      let k : 2 * (i + 1) ≡ 2 * i + 2 = omega arith in
      let d = drop_two before (2 * i) (omega arith) in
      let s = hex_of_take_suc src i (omega arith) in
      let g = get_or-take n src i 0 (omega arith) in
      rw (inv, d, set_two p _ _ _ x y (2 * i) h, s, append_assoc, k, rw g at e, rw g at f)

  pub ends : i ≤ length (take n src) → length (take n src) ≤ i → Spelled src before (2 * n) out
  unfolding shown
  ends l g =
      let m = shown_length in
      let e : i ≡ n = omega arith in
      record { count = ap (λ (k : ℕ). 2 * k) fit; buffer = rw (← fit, ← e) inv }

-- the answer counts bytes of the buffer
pub within : (src before : List ℕ) {written : ℕ} {after : List ℕ} → Spelled src before written after → written ≤ length after
unfolding shown
within src before h =
    let n = min (length src) (length before / 2) in
    rw (h.buffer, h.count, length-append, length_hex_of, length-take) (omega arith)

pub line_of_sixteen : (src : List ℕ) {written : ℕ} {after : List ℕ} → length src ≡ 16
    → Spelled src (replicate 33 10) written after → after ≡ hex_line src
unfolding hex_line shown
line_of_sixteen src h spelled =
    let all : take 16 src ≡ src = take_all 16 src (omega arith) in rw (h, all) at spelled.buffer
