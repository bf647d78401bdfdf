-- Laws of the ways through `digits`: one_place, one_digit, last_fits, last_place_lem, last_digit; through `word`: word_fits,
-- end_place, ended; through `line`: eleven, no_room, empty, turn, ended_line; of its answer: within.
use Prim.Native.Nat.{ℕ, ◌+◌, ◌*◌, ◌/◌, ◌%◌, ◌≤◌, ◌<◌}
use mathlib.Core.Path.{◌≡◌, refl, ap, ◌∙◌}
use mathlib.Core.List.{List, [], ◌∷◌, ◌++◌, append_assoc}
use mathlib.Core.Bool.{Bool, true, false, cond}
use lib.Dec.{leb}
use lib.ListN.{length, drop, get_or, set, length-append, drop_of_length-le}
use lib.Seq.{drop-cons}
use Rattle.std.proofs.lemmas.List.{get_or_append_left, get_or_push}
use native.Mathlib.Numerals.{add-one}
use native.Mathlib.Omega.{arith}
use borrow.Author.Tests.{le-leb, lt-leb, leb-true}
use Rattle.text.specs.Lines.{numeral_of, end_of, line_of, line_for, put_at, Put}
use Rattle.text.proofs.NumeralLaws.{numeral_one, numeral_tens, length_numeral_le, length_one, length_tens}
use Rattle.text.proofs.PutLaws.{put_none, put_put, put_length, put_more}

-- a number of one digit, and the last digit of another
module _ (n : ℕ) (s : List ℕ) (at : ℕ) (fits : at + length (numeral_of n) ≤ length s) where
  pub one_place : n < 10 → at < length s
  one_place l = omega (arith, length_one n l)

  pub last_fits : 10 ≤ n → n < 4294967296 → at + length (numeral_of (n / 10)) ≤ length s
  last_fits l h = omega (arith, length_tens n l h)

  pub last_place_lem : 10 ≤ n → n < 4294967296 → {next : ℕ} {t : List ℕ} → Put s at (numeral_of (n / 10)) next t
      → next < length t
  last_place_lem l h p =
      let k = length_tens n l h in
      omega (arith, p.place, put_length s at p (omega arith))

  pub one_digit : n < 10 → Put s at (numeral_of n) (at + 1) (set s at (48 + n))
  one_digit l =
      let k = length_one n l in
      rw (numeral_one n l) (put_more s at (put_none s at) (omega arith) (48 + n))

  pub last_digit : 10 ≤ n → n < 4294967296 → {next : ℕ} {t : List ℕ} → Put s at (numeral_of (n / 10)) next t
      → Put s at (numeral_of n) (next + 1) (set t next (48 + n % 10))
  last_digit l h p =
      let k = length_tens n l h in
      rw (numeral_tens n l h) (put_more s at p (omega arith) (48 + n % 10))

-- a number with the byte behind it, where 11 bytes are left
module _ (n : ℕ) (s : List ℕ) (at : ℕ) (fits : at + 11 ≤ length s) where
  pub word_fits : at + length (numeral_of n) ≤ length s
  word_fits = omega (arith, length_numeral_le n)

  module _ {next : ℕ} {t : List ℕ} (p : Put s at (numeral_of n) next t) where
    pub end_place : next < length t
    end_place = omega (arith, length_numeral_le n, p.place, put_length s at p (omega (arith, length_numeral_le n)))

    pub ended : (b : ℕ) → Put s at (numeral_of n ++ b ∷ []) (next + 1) (set t next b)
    ended b = put_more s at p (omega (arith, length_numeral_le n)) b

-- a number with the byte behind it takes at most 11 bytes
pub eleven : (n b : ℕ) (s : List ℕ) (at i : ℕ) {next : ℕ} {t : List ℕ}
    → Put s at (numeral_of n ++ b ∷ []) next t → at ≤ 11 * i → next ≤ 11 * (i + 1)
eleven n b s at i p h = omega (arith, length_numeral_le n, simp length-append at p.place)

line_cons : (n : ℕ) (ns : List ℕ) → line_of (n ∷ ns) ≡ (numeral_of n ++ end_of ns ∷ []) ++ line_of ns
unfolding line_of
line_cons n ns = simp append_assoc

line_at : (ns : List ℕ) (i : ℕ) → i < length ns
    → line_of (drop i ns) ≡ (numeral_of (get_or ns i 0) ++ end_of (drop (i + 1) ns) ∷ []) ++ line_of (drop (i + 1) ns)
line_at ns i h = rw (drop-cons ns i 0 h, add-one) (line_cons _ _)

not_last : (ns : List ℕ) (i : ℕ) → i < length ns → 32 ≡ end_of (drop i ns)
unfolding end_of
not_last ns i h = rw (drop-cons ns i 0 h)

is_last : (ns : List ℕ) (i : ℕ) → length ns ≤ i → 10 ≡ end_of (drop i ns)
unfolding end_of
is_last ns i h = rw (drop_of_length-le ns h)

pub no_room : (ns s : List ℕ) → length s / 11 < length ns → Put s 0 (line_for ns s) 0 s
unfolding line_for
no_room ns s h = rw (lt-leb (length ns) (length s / 11) h) (put_none s 0)

pub empty : (ns s : List ℕ) → length ns ≡ 0 → Put s 0 (line_for ns s) 0 s
unfolding line_for line_of
empty [] s h = rw (le-leb 0 (length s / 11) (omega arith)) (put_none s 0)
empty (n ∷ ns) s h = absurd (omega arith)

-- after i numbers: what is left of the line, put behind them, makes the whole
module _ (ns before out : List ℕ) (at i : ℕ)
    (inv : Put before 0 (line_of ns) (at + length (line_of (drop i ns))) (put_at out at (line_of (drop i ns)))) where
  module _ (l : i < length ns) (m : at ≤ 11 * i) (same : length out ≡ length before)
      (room : length ns ≤ length before / 11) where
    step : (b : ℕ) → b ≡ end_of (drop (i + 1) ns)
        → {next : ℕ} {t : List ℕ} → Put out at (numeral_of (get_or ns i 0) ++ b ∷ []) next t
        → Put before 0 (line_of ns) (next + length (line_of (drop (i + 1) ns))) (put_at t next (line_of (drop (i + 1) ns)))
    step b e {next} {t} p =
        let w = numeral_of (get_or ns i 0) ++ b ∷ [] in
        let v = line_of (drop (i + 1) ns) in
        let q : line_of (drop i ns) ≡ w ++ v = rw e (line_at ns i l) in
        let a : at + length w ≤ length out = simp length-append (omega (arith, length_numeral_le (get_or ns i 0))) in
        let k = rw q at inv.place in
        record {
          place = omega (arith, p.place, length-append w v);
          buffer = rw (p.buffer, p.place, put_put out at w v a, ← q) inv.buffer;
        }

  finished : length ns ≤ i → length ns ≤ length before / 11 → Put before 0 (line_for ns before) at out
  unfolding line_for line_of
  finished l h =
      let e = rw (drop_of_length-le ns l) at inv in
      rw (le-leb (length ns) (length before / 11) h)
      (record { place = omega (arith, e.place); buffer = (put_none out at).buffer ∙ e.buffer })

-- the numbers before the last, and the last
module _ (ns before out : List ℕ) (at i : ℕ)
    (inv : Put before 0 (line_of ns) (at + length (line_of (drop i ns))) (put_at out at (line_of (drop i ns))))
    (front : List ℕ) (last : ℕ) (cut : ns ≡ front ++ last ∷ []) (m : at ≤ 11 * i) (same : length out ≡ length before)
    (room : length ns ≤ length before / 11) where
  count : length ns ≡ length front + 1
  count = ap length cut ∙ simp length-append

  pub turn : i < length front
      → {next : ℕ} {t : List ℕ} → Put out at (numeral_of (get_or front i 0) ++ 32 ∷ []) next t
      → Put before 0 (line_of ns) (next + length (line_of (drop (i + 1) ns))) (put_at t next (line_of (drop (i + 1) ns)))
  turn l p =
      let c = count in
      let e : get_or ns i 0 ≡ get_or front i 0 = rw cut (get_or_append_left front (last ∷ []) 0 i l) in
      step ns before out at i inv (omega arith) m same room 32 (not_last ns (i + 1) (omega arith)) (rw (← e) at p)

  pub ended_line : length front ≤ i → i ≤ length front
      → {next : ℕ} {t : List ℕ} → Put out at (numeral_of last ++ 10 ∷ []) next t → Put before 0 (line_for ns before) next t
  ended_line l k {next} {t} p =
      let c = count in
      let n : i ≡ length front = omega arith in
      let e : get_or ns i 0 ≡ last = rw (cut, n) (get_or_push front last 0 (length front) refl) in
      finished ns before t next (i + 1)
      (step ns before out at i inv (omega arith) m same room 10 (is_last ns (i + 1) (omega arith)) (rw (← e) at p))
      (omega arith) room

length_line_le : (ns : List ℕ) → length (line_of ns) ≤ 11 * length ns
unfolding line_of
length_line_le [] = omega arith
length_line_le (n ∷ ns) = simp length-append (omega (arith, length_numeral_le n, length_line_le ns))

length_for_le : (ns s : List ℕ) → length (line_for ns s) ≤ length s
unfolding line_for
length_for_le ns s = go (leb (length ns) (length s / 11)) refl
  where
    go : (b : Bool) → leb (length ns) (length s / 11) ≡ b → length (cond b (line_of ns) []) ≤ length s
    go true e = omega (arith, leb-true (length ns) (length s / 11) e, length_line_le ns)
    go false e = omega arith

-- the answer counts bytes of the buffer
pub within : (ns s : List ℕ) {r : ℕ} {t : List ℕ} → Put s 0 (line_for ns s) r t → r ≤ length t
within ns s p =
    let k = length_for_le ns s in
    omega (arith, p.place, put_length s 0 p (omega arith))
