-- Bytes that stand in a list from a place on (Holds): their parts (front, rest), and the byte, the part, the number, the
-- four numbers and the strings that are read there. The first byte from a place on, and those behind it: next_byte.
use Prim.Native.Nat.{ℕ, zero, suc, ◌+◌, ◌/◌, ◌%◌, ◌≤◌, ◌<◌}
use mathlib.Core.Path.{◌≡◌, refl, sym, ap, ◌∙◌}
use mathlib.Core.List.{List, [], ◌∷◌, ◌++◌, append_assoc, append-nil}
use mathlib.Core.Bool.{Bool, true, false, cond}
use lib.ListN.{length, get_or, take, drop, length-append, get_or-append}
use lib.Seq.{get_or-append-add, drop_at, drop-cons, take-append_seam}
use lib.Dec.{eqb}
use native.Mathlib.Omega.{arith}
use native.Mathlib.Numerals.{add-one}
use Rattle.std.specs.Prelude.{Option, Some}
use Rattle.be.specs.Numbers.{be32_at}
use Rattle.strings.specs.Strings.{strings_from}
use Rattle.put.specs.Puts.{bytes_of, four_bytes}

pub next_byte : (s : List ℕ) (k : ℕ) → k < length s → drop k s ≡ get_or s k 0 ∷ drop (k + 1) s
next_byte s k l = drop-cons s k 0 l ∙ rw (add-one k)

pub record Holds (p : List ℕ) (k : ℕ) (xs : List ℕ) : Type 0 where
  pub before : List ℕ
  pub after : List ℕ
  pub whole : p ≡ before ++ (xs ++ after)
  pub place : length before ≡ k

pub all : (p : List ℕ) → Holds p 0 p
all p = record { before = []; after = []; whole = sym (append-nil p); place = refl }

pub front : {p : List ℕ} {k : ℕ} (xs ys : List ℕ) → Holds p k (xs ++ ys) → Holds p k xs
front xs ys h =
    record { before = h.before; after = ys ++ h.after; whole = h.whole ∙ simp append_assoc; place = h.place }

pub rest : {p : List ℕ} {k : ℕ} (xs ys : List ℕ) → Holds p k (xs ++ ys) → Holds p (k + length xs) ys
rest xs ys h =
    record {
      before = h.before ++ xs;
      after = h.after;
      whole = h.whole ∙ simp append_assoc;
      place = length-append h.before xs ∙ rw h.place;
    }

-- the place, as it is computed
pub moved : {p : List ℕ} {j k : ℕ} {xs : List ℕ} → j ≡ k → Holds p j xs → Holds p k xs
moved e h = record { before = h.before; after = h.after; whole = h.whole; place = h.place ∙ e }

module _ {p : List ℕ} {k : ℕ} {xs : List ℕ} (h : Holds p k xs) where
  pub byte : (i : ℕ) → i < length xs → get_or p (k + i) 0 ≡ get_or xs i 0
  byte i l =
      rw (h.whole, ← h.place)
      (get_or-append-add h.before (xs ++ h.after) i 0 ∙ get_or-append xs h.after 0 i l)

  pub part : take (length xs) (drop k p) ≡ xs
  part =
      let e = drop_at h.before (xs ++ h.after) k h.place in
      rw (h.whole, e) (take-append_seam xs h.after)

  pub within : k + length xs ≤ length p
  within =
      let e = ap length h.whole ∙ length-append h.before _ in
      let f = length-append xs h.after in
      let g = h.place in
      omega arith

pub number : {p : List ℕ} {k : ℕ} (n : ℕ) → n < 4294967296 → Holds p k (bytes_of n) → be32_at p k ≡ n
unfolding be32_at bytes_of
number {p} {k} n l h =
    let e : k + 0 ≡ k = omega arith in
    let a : get_or p k 0 ≡ n / 16777216 % 256 = rw e at (byte h 0 (omega arith)) in
    let b : get_or p (k + 1) 0 ≡ n / 65536 % 256 = byte h 1 (omega arith) in
    let c : get_or p (k + 2) 0 ≡ n / 256 % 256 = byte h 2 (omega arith) in
    let d : get_or p (k + 3) 0 ≡ n % 256 = byte h 3 (omega arith) in
    omega arith

pub record Four (p : List ℕ) (k a b c d : ℕ) : Type 0 where
  pub first : be32_at p k ≡ a
  pub second : be32_at p (k + 4) ≡ b
  pub third : be32_at p (k + 8) ≡ c
  pub fourth : be32_at p (k + 12) ≡ d

pub four : {p : List ℕ} {k : ℕ} (a b c d : ℕ) → a < 4294967296 → b < 4294967296 → c < 4294967296 → d < 4294967296
    → Holds p k (four_bytes a b c d) → Four p k a b c d
unfolding four_bytes bytes_of
four {k = k} a b c d la lb lc ld h =
    let h4 = rest (bytes_of a) (bytes_of b ++ (bytes_of c ++ bytes_of d)) h in
    let h8 = moved {k = k + 8} (omega arith) (rest (bytes_of b) (bytes_of c ++ bytes_of d) h4) in
    let h12 = moved {k = k + 12} (omega arith) (rest (bytes_of c) (bytes_of d) h8) in
    record {
      first = number a la (front (bytes_of a) (bytes_of b ++ (bytes_of c ++ bytes_of d)) h);
      second = number b lb (front (bytes_of b) (bytes_of c ++ bytes_of d) h4);
      third = number c lc (front (bytes_of c) (bytes_of d) h8);
      fourth = number d ld h12;
    }

-- what is shown of both sides of a choice
either : (b : Bool) {x y x' y' v v' : Option ℕ} → (x ≡ v → x' ≡ v') → (y ≡ v → y' ≡ v') → cond b x y ≡ v → cond b x' y' ≡ v'
either true f g h = f h
either false f g h = g h

-- strings that end in the bytes end at the same place of the list, with that room or more
pub strings : {p : List ℕ} {k : ℕ} {xs : List ℕ} → Holds p k xs → (room at count e more : ℕ) → at + room ≤ length xs
    → room ≤ more → strings_from xs room at count ≡ Some e → strings_from p more (k + at) count ≡ Some (k + e)
unfolding strings_from
strings {k = k} h room at zero e more l m s = let q : at ≡ e = cc in rw q
strings h zero at (suc count) e more l m s = absurd cc
strings h (suc room) at (suc count) e zero l m s = absurd (omega arith)
strings {p} {k} {xs} h (suc room) at (suc count) e (suc more) l m s =
    let next : k + at + 1 ≡ k + (at + 1) = omega arith in
    rw (byte h at (omega arith), next)
    (either (eqb (get_or xs at 0) 0) (λ q. strings h room (at + 1) count e more (omega arith) (omega arith) q)
    (λ q. strings h room (at + 1) (suc count) e more (omega arith) (omega arith) q) s)
