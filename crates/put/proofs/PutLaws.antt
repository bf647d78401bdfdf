-- Stores in a buffer (out_of_room, sets_append, sets_past, behind, before, put_there, at_front); bytes and zero bytes put into
-- the part of it that there is room for (all_put, room_put, zeros_put), one to a turn (copy_turn, copied), one behind the other (run_put); the length of what is
-- put (length_bytes_lem, length_four).
use Prim.Native.Nat.{ℕ, suc, ◌+◌, ◌-◌, ◌≤◌, ◌<◌}
use mathlib.Core.Path.{◌≡◌, refl, sym, ap, ◌∙◌}
use mathlib.Core.List.{List, [], ◌∷◌, ◌++◌, append_assoc}
use lib.ListN.{length, get_or, set, take, drop, length-take, length-drop, length-replicate, replicate}
use lib.Seq.{sets, sets-eq, set_out, set_comm, take_at, drop_at, drop-cons, drop-drop, length-sets, length-take-le}
use borrow.Rule.Slice.PartMut.{put_mid}
use mathlib.Core.Bool.{Bool, true, false}
use lib.Dec.{leb}
use borrow.Author.Tests.{leb-true, leb-false}
use Rattle.std.specs.Prelude.{min}
use Rattle.std.proofs.lemmas.List.{take-append-drop, take-replicate}
use native.Mathlib.Nat.{add-zero}
use native.Mathlib.Numerals.{add-one}
use native.Mathlib.Omega.{arith}
use Rattle.put.specs.Puts.{bytes_of, four_bytes, zeros}

pub out_of_room : (out : List ℕ) (i n : ℕ) → length out ≤ i → out ≡ set out i n
out_of_room out i n h = sym (set_out out i n h)

pub sets_append : (out : List ℕ) (i : ℕ) (xs ys : List ℕ)
    → sets out i (xs ++ ys) ≡ sets (sets out i xs) (i + length xs) ys
sets_append out i [] ys = rw add-zero
sets_append out i (x ∷ xs) ys =
    let e : i + suc (length xs) ≡ suc i + length xs = omega arith in
    rw e (sets_append (set out i x) (suc i) xs ys)

pub sets_past : (out : List ℕ) (i : ℕ) (xs : List ℕ) → length out ≤ i → sets out i xs ≡ out
sets_past out i [] h = refl
sets_past out i (x ∷ xs) h = let e = set_out out i x h in rw e (sets_past out (suc i) xs (omega arith))

-- what is put behind what was put
pub behind : (out : List ℕ) {o₁ o₂ : List ℕ} (at : ℕ) {next : ℕ} (xs ys : List ℕ) → o₁ ≡ sets out at xs → o₂ ≡ sets o₁ next ys
    → next ≡ at + length xs → o₂ ≡ sets out at (xs ++ ys)
behind out at xs ys p q e = q ∙ rw (p, e) (sym (sets_append out at xs ys))

-- what is put before what was put
set_before : (out : List ℕ) (at x next : ℕ) (ys : List ℕ) → at < next → set (sets out next ys) at x ≡ sets (set out at x) next ys
set_before out at x next [] h = refl
set_before out at x next (y ∷ ys) h =
    set_before (set out next y) at x (suc next) ys (omega arith)
    ∙ ap (λ (l : List ℕ). sets l (suc next) ys) (set_comm out next at y x (λ e. let k : next ≡ at = e in omega arith))

sets_before : (out : List ℕ) (at next : ℕ) (xs ys : List ℕ) → at + length xs ≤ next
    → sets (sets out next ys) at xs ≡ sets (sets out at xs) next ys
sets_before out at next [] ys h = refl
sets_before out at next (x ∷ xs) ys h =
    ap (λ (l : List ℕ). sets l (suc at) xs) (set_before out at x next ys (omega arith))
    ∙ sets_before (set out at x) (suc at) next xs ys (omega arith)

pub before : (out : List ℕ) {o₁ o₂ : List ℕ} (at : ℕ) {next : ℕ} (xs ys : List ℕ) → o₁ ≡ sets out next ys → o₂ ≡ sets o₁ at xs
    → next ≡ at + length xs → o₂ ≡ sets out at (xs ++ ys)
before out at {next} xs ys p q e =
    q ∙ rw p (sets_before out at next xs ys (omega arith)) ∙ behind out at xs ys refl refl e

-- what was put stands there
pub put_there : (out vs : List ℕ) (at : ℕ) → at + length vs ≤ length out → take (length vs) (drop at (sets out at vs)) ≡ vs
put_there out vs at h =
    let rest = drop (at + length vs) out in
    ap (λ (l : List ℕ). take (length vs) (drop at l)) (sets-eq vs out at h ∙ append_assoc (take at out) vs rest)
    ∙ ap (take (length vs)) (drop_at (take at out) (vs ++ rest) at (length-take-le at out (omega arith)))
    ∙ take_at vs rest (length vs) refl

pub at_front : (out vs : List ℕ) → length vs ≤ length out → sets out 0 vs ≡ vs ++ drop (length vs) out
at_front out vs h = let e : 0 + length vs ≡ length vs = omega arith in sets-eq vs out 0 (omega arith) ∙ rw e

-- a place behind the end is as good as any other there
clamped : (out : List ℕ) (at p cap : ℕ) (vs : List ℕ) → p ≡ min at cap → length out ≤ cap → sets out p vs ≡ sets out at vs
clamped out at p cap vs h m = go (leb at cap) refl
  where
    go : (b : Bool) → leb at cap ≡ b → sets out p vs ≡ sets out at vs
    go true t = let l = leb-true at cap t in let e : p ≡ at = omega arith in rw e
    go false t =
        let l = leb-false at cap t in
        sets_past out p vs (omega arith) ∙ sym (sets_past out at vs (omega arith))

-- only what there is room for is put
room_only : (out : List ℕ) (at room : ℕ) (vs : List ℕ) → length out ≤ at + room → room ≤ length vs
    → sets out at (take room vs) ≡ sets out at vs
room_only out at room vs l m =
    let long = length-take-le room vs m in
    let e : at + room ≡ at + length (take room vs) = omega arith in
    sym
    (ap (sets out at) (sym (take-append-drop room vs)) ∙ sets_append out at (take room vs) (drop room vs)
    ∙ sets_past (sets out at (take room vs)) (at + length (take room vs)) (drop room vs)
    (let k = length-sets out at (take room vs) in omega arith))

-- a part of the buffer, and the buffer with other bytes there
length_part : (out : List ℕ) (p k : ℕ) → p + k ≤ length out → length (take k (drop p out)) ≡ k
length_part out p k h = simp (length-take, length-drop) (omega arith)

part_put : (out : List ℕ) (p k : ℕ) (vs : List ℕ) → p + length vs ≤ length out → k ≡ length vs → put_mid p k out vs ≡ sets out p vs
part_put out p k vs l e =
    rw (e, drop-drop (length vs) p out) (sym (sets-eq vs out p l ∙ append_assoc (take p out) vs (drop (p + length vs) out)))

module _ (out : List ℕ) (at p k : ℕ) {o : List ℕ} (e : p ≡ min at (length out)) where
  pub all_put : (vs : List ℕ) → o ≡ vs → length vs ≤ length out - p → k ≡ p + length vs - p → put_mid p k out o ≡ sets out at vs
  all_put vs f l g = rw f (part_put out p k vs (omega arith) (omega arith) ∙ clamped out at p (length out) vs e (omega arith))

  pub room_put : (vs : List ℕ) → o ≡ take (length out - p) vs → length out - p < length vs → k ≡ length out - p
      → put_mid p k out o ≡ sets out at vs
  room_put vs f l g =
      let long = length-take-le (length out - p) vs (omega arith) in
      rw f
      (part_put out p k (take (length out - p) vs) (omega arith) (omega arith)
      ∙ room_only out p (length out - p) vs (omega arith) (omega arith) ∙ clamped out at p (length out) vs e (omega arith))

  pub zeros_put : (n m : ℕ) → o ≡ replicate (length (take k (drop p out))) 0 → m ≡ min n (length out - p) → k ≡ p + m - p
      → put_mid p k out o ≡ sets out at (zeros n)
  zeros_put n m f g h = go (leb n (length out - p)) refl
    where
      long : length (zeros n) ≡ n
      long = length-replicate {A = ℕ} n 0

      fits : length (take k (drop p out)) ≡ k
      fits = length_part out p k (omega arith)

      go : (b : Bool) → leb n (length out - p) ≡ b → put_mid p k out o ≡ sets out at (zeros n)
      go true t =
          let l = leb-true n (length out - p) t in
          let w = long in
          let q : k ≡ n = omega arith in
          all_put (zeros n) (f ∙ rw (fits, q)) (omega arith) (omega arith)
      go false t =
          let l = leb-false n (length out - p) t in
          let w = long in
          let q : k ≡ length out - p = omega arith in
          room_put (zeros n) (f ∙ rw (fits, q) (sym (take-replicate (length out - p) n 0 (omega arith)))) (omega arith) q

-- nothing is left, or there is no room
no_more : (out : List ℕ) (i : ℕ) (xs : List ℕ) → (1 ≤ length xs → length out ≤ i) → sets out i xs ≡ out
no_more out i [] h = refl
no_more out i (x ∷ xs) h = sets_past out i (x ∷ xs) (h (omega arith))

-- a copy of as many bytes as there is room for, one to a turn
module _ (out : List ℕ) (at n i : ℕ) (bytes : List ℕ) {v : List ℕ} (inv : v ≡ sets out (at + i) (drop i bytes)) where
  pub copy_turn : (room : ℕ) → n ≡ min (length bytes) room → i < n
      → v ≡ sets (set out (at + i) (get_or bytes i 0)) (at + (i + 1)) (drop (i + 1) bytes)
  copy_turn room r l =
      let e : at + (i + 1) ≡ suc (at + i) = omega arith in
      inv ∙ rw (e, add-one i, drop-cons bytes i 0 (omega arith))

  pub copied : (room len : ℕ) → n ≡ min (length bytes) room → room ≡ len - at → length out ≡ len → n ≤ i → out ≡ v
  copied room len r e f l =
      sym (inv ∙ no_more out (at + i) (drop i bytes) (λ h. let k = length-drop i bytes in omega arith))

-- bytes and zero bytes
pub run_put : (out : List ℕ) (at n p cap : ℕ) (run : List ℕ) {o r : List ℕ} → length out ≤ cap → o ≡ sets out at run
    → p ≡ min (at + length run) cap → r ≡ sets o p (zeros n) → r ≡ sets out at (run ++ zeros n)
run_put out at n p cap run l f g h =
    let long = length-sets out at run in
    let k = ap length f in
    h ∙ clamped _ (at + length run) p cap (zeros n) g (omega arith) ∙ rw f (sym (sets_append out at run (zeros n)))

-- the length of a number, and of four
pub length_bytes_lem : (n : ℕ) → length (bytes_of n) ≡ 4
unfolding bytes_of
length_bytes_lem n = refl

pub length_four : (a b c d : ℕ) → length (four_bytes a b c d) ≡ 16
unfolding four_bytes bytes_of
length_four a b c d = refl
