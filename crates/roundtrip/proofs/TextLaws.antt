-- Bytes are so many strings, and nothing behind the last, exactly where a scan for as many strings ends with them:
-- strings_exact.
use Prim.Native.Nat.{ℕ, zero, suc, ◌+◌, ◌≤◌, ◌<◌}
use mathlib.Core.Path.{◌≡◌, refl, sym, ap, ◌∙◌}
use mathlib.Core.Logic.{◌↔◌, ◌≢◌}
use mathlib.Core.List.{List, [], ◌∷◌, ◌++◌}
use mathlib.Core.Bool.{Bool, true, false, cond}
use lib.ListN.{length, get_or, drop, drop_of_length-le}
use lib.Seq.{get_or-drop, drop-drop}
use lib.Dec.{eqb}
use native.Mathlib.Omega.{arith}
use borrow.Author.Tests.{eqb-true, eqb-false, eq-eqb, ne_eqb}
use Rattle.std.specs.Prelude.{Some}
use Rattle.strings.specs.Strings.{strings_from, in_row}
use Rattle.roundtrip.specs.Lawful.{Strings}
use Rattle.roundtrip.proofs.HoldsLaws.{next_byte}

-- no text has a zero byte
abbrev Whole : List (List ℕ) → Type 0
Whole texts = (k i : ℕ) → k < length texts → i < length (get_or texts k []) → get_or (get_or texts k []) i 0 ≢ 0

module _ (s : List ℕ) where
  -- a byte in front of others, from a place on
  in_front : (at x : ℕ) (xs : List ℕ) → drop at s ≡ x ∷ xs → (get_or s at 0 ≡ x) × (drop (at + 1) s ≡ xs)
  in_front at x xs h =
      let e : at + 0 ≡ at = omega arith in (
        sym (rw e at (get_or-drop at s 0 0)) ∙ ap (λ (l : List ℕ). get_or l 0 0) h,
        sym (drop-drop 1 at s) ∙ ap (drop 1) h,
      )

  -- texts in a row from a place on: the scan ends behind them
  abbrev RowEnds : List ℕ → ℕ → Type 0
  RowEnds row count =
      (room at : ℕ) → drop at s ≡ row → length row ≤ room → strings_from s room at count ≡ Some (at + length row)

  text_ends : (text rest : List ℕ) (count : ℕ) → ((i : ℕ) → i < length text → get_or text i 0 ≢ 0) → RowEnds rest count
      → RowEnds (text ++ 0 ∷ rest) (suc count)
  unfolding strings_from
  text_ends text rest count n f zero at h l = absurd (some text l)
    where
      some : (text : List ℕ) → length (text ++ 0 ∷ rest) ≤ 0 → ⊥
      some [] l = omega arith
      some (x ∷ text) l = omega arith
  text_ends [] rest count n f (suc room) at h l =
      let b = in_front at 0 rest h in
      let e : at + 1 + length rest ≡ at + suc (length rest) = omega arith in
      rw (eq-eqb (get_or s at 0) 0 b.0, ← e) (f room (at + 1) b.1 (omega arith))
  text_ends (x ∷ text) rest count n f (suc room) at h l =
      let b = in_front at x (text ++ 0 ∷ rest) h in
      let e : at + 1 + length (text ++ 0 ∷ rest) ≡ at + suc (length (text ++ 0 ∷ rest)) = omega arith in
      rw (ne_eqb (get_or s at 0) 0 (λ q. n 0 (omega arith) (sym b.0 ∙ q)), ← e)
      (text_ends text rest count (λ i l. n (suc i) (omega arith)) f room (at + 1) b.1 (omega arith))

  none_end : (room at : ℕ) → strings_from s room at 0 ≡ Some (at + 0)
  unfolding strings_from
  none_end room at = let e : at + 0 ≡ at = omega arith in rw e

  row_ends : (texts : List (List ℕ)) → Whole texts → RowEnds (in_row texts) (length texts)
  unfolding in_row
  row_ends [] w = λ room at h l. none_end room at
  row_ends (text ∷ rest) w =
      text_ends text (in_row rest) (length rest) (λ i l. w 0 i (omega arith) l)
      (row_ends rest (λ k i l. w (suc k) i (omega arith)))

  -- a scan that ends with the bytes: they are texts in a row
  with_zero : (at count : ℕ) → at < length s → get_or s at 0 ≡ 0 → Strings (drop (at + 1) s) count
      → Strings (drop at s) (suc count)
  unfolding in_row
  with_zero at count l z r =
      record {
        texts = [] ∷ r.texts;
        number = ap suc r.number;
        row = next_byte s at l ∙ rw (z, r.row);
        whole = whole;
      }
    where
      whole : Whole ([] ∷ r.texts)
      whole zero i l m = absurd (omega arith)
      whole (suc k) i l m = r.whole k i (omega arith) m

  with_byte : (at count : ℕ) → at < length s → get_or s at 0 ≢ 0 → Strings (drop (at + 1) s) (suc count)
      → Strings (drop at s) (suc count)
  unfolding in_row
  with_byte at count l z r = go r.texts r.number r.row r.whole
    where
      go : (texts : List (List ℕ)) → length texts ≡ suc count → drop (at + 1) s ≡ in_row texts → Whole texts
          → Strings (drop at s) (suc count)
      go [] n e w = absurd (omega arith)
      go (text ∷ rest) n e w =
          record {
            texts = (get_or s at 0 ∷ text) ∷ rest;
            number = n;
            row = next_byte s at l ∙ rw e;
            whole = whole;
          }
        where
          whole : Whole ((get_or s at 0 ∷ text) ∷ rest)
          whole zero zero l m = z
          whole zero (suc i) l m = w 0 i (omega arith) (omega arith)
          whole (suc k) i l m = w (suc k) i (omega arith) m

  scanned : (room at count : ℕ) → at + room ≡ length s → strings_from s room at count ≡ Some (at + room)
      → Strings (drop at s) count
  unfolding strings_from in_row
  scanned room at zero l h =
      let e : at ≡ at + room = cc in
      record {
        texts = [];
        number = refl;
        row = drop_of_length-le s {i = at} (omega arith);
        whole = λ k i l. absurd (omega arith);
      }
  scanned zero at (suc count) l h = absurd cc
  scanned (suc room) at (suc count) l h =
      let e : at + suc room ≡ at + 1 + room = omega arith in
      go (eqb (get_or s at 0) 0) refl (rw e at h) (scanned room (at + 1) count (omega arith))
      (scanned room (at + 1) (suc count) (omega arith))
    where
      go : (b : Bool) → eqb (get_or s at 0) 0 ≡ b
          → cond b (strings_from s room (at + 1) count) (strings_from s room (at + 1) (suc count)) ≡ Some (at + 1 + room)
          → (strings_from s room (at + 1) count ≡ Some (at + 1 + room) → Strings (drop (at + 1) s) count)
          → (strings_from s room (at + 1) (suc count) ≡ Some (at + 1 + room) → Strings (drop (at + 1) s) (suc count))
          → Strings (drop at s) (suc count)
      go true t h f g = with_zero at count (omega arith) (eqb-true _ _ t) (f h)
      go false t h f g = with_byte at count (omega arith) (eqb-false _ _ t) (g h)

pub strings_exact : (bytes : List ℕ) (count : ℕ)
    → (strings_from bytes (length bytes) 0 count ≡ Some (length bytes)) ↔ Strings bytes count
strings_exact bytes count = (
  λ h. let e : 0 + length bytes ≡ length bytes = omega arith in scanned bytes (length bytes) 0 count e (rw e h),
  λ r.
      let e : 0 + length bytes ≡ length bytes = omega arith in
      let h = row_ends bytes r.texts r.whole (length bytes) 0 r.row in
      rw (← r.row, r.number, e) at (h (let l = ap length r.row in omega arith)),
)
