-- Strings in a row as texts: one text (text_here), and texts that end with "/" (rows_lawful).
use Prim.Native.Nat.{ℕ, zero, suc, ◌+◌, ◌-◌, ◌≤◌, ◌<◌}
use mathlib.Core.Path.{◌≡◌, refl, sym, ap, subst, ◌∙◌}
use mathlib.Core.Logic.{◌↔◌, ◌≢◌, ◌⊎◌, inl, inr}
use mathlib.Core.List.{List, [], ◌∷◌, ◌++◌, append_assoc}
use mathlib.Core.Bool.{Bool, true, false}
use lib.Dec.{eqb, leb}
use lib.ListN.{length, get_or, take, drop, length-append, length-drop, get_or-append}
use lib.Seq.{length-take-le, take-suc, take-add, drop-drop, drop_at, get_or-take, get_or-drop, get_or-append_seam}
use native.Mathlib.Omega.{arith}
use borrow.Author.Tests.{eqb-true, eqb-false, leb-true, leb-false}
use Rattle.strings.specs.Strings.{strings_from, in_row}
use Rattle.strings.proofs.StringLaws.{bound, positive, tight, split}
use Rattle.strings.proofs.RowLaws.{single_ends, single_text}
use Rattle.demands.specs.Lawful.{Each, Directory, Directories}
use Rattle.std.specs.Prelude.{Some}

-- each zero byte of n bytes from a place on stands right behind a slash of theirs
abbrev pub SlashEnds : List ℕ → ℕ → ℕ → Type 0
SlashEnds s n at = (z : ℕ) → at ≤ z → z < at + n → get_or s z 0 ≡ 0 → (at < z) × (get_or s (z - 1) 0 ≡ 0x2F)

abbrev pub Whole : List ℕ → Type 0
Whole text = (i : ℕ) → i < length text → get_or text i 0 ≢ 0

order : (a b : ℕ) → (a < b) ⊎ (a ≡ b) ⊎ (b < a)
order a b = go (leb b a) (eqb a b) refl refl
  where
    go : (x y : Bool) → leb b a ≡ x → eqb a b ≡ y → (a < b) ⊎ (a ≡ b) ⊎ (b < a)
    go false y p q = inl (let l = leb-false b a p in omega arith)
    go true true p q = inr (inl (eqb-true a b q))
    go true false p q = inr (inr (let l = leb-true b a p in let n = eqb-false a b q in omega arith))

module _ (s : List ℕ) where
  -- a byte of a text
  byte_of_lem : (at : ℕ) (text : List ℕ) → take (length text) (drop at s) ≡ text
      → (i : ℕ) → i < length text → get_or s (at + i) 0 ≡ get_or text i 0
  byte_of_lem at text h i l =
      sym (get_or-drop at s i 0) ∙ sym (get_or-take (length text) (drop at s) i 0 l) ∙ ap (λ (x : List ℕ). get_or x i 0) h

  -- a single string from a place on, of so many bytes
  module _ (at n : ℕ) (single : strings_from s n at 1 ≡ Some (at + n)) (some : 1 ≤ n) (fits : at + n ≤ length s) where
    last_zero : get_or s (at + (n - 1)) 0 ≡ 0
    last_zero = let v : at + n - 1 ≡ at + (n - 1) = omega arith in rw v at (single_ends s n at (at + n) single)

    -- a text in front of a zero byte is all of it but that
    text_length : (text rest : List ℕ) → Whole text
        → take (length (text ++ 0 ∷ rest)) (drop at s) ≡ text ++ 0 ∷ rest → length text + 1 ≡ n
    text_length text rest whole h =
        let m = length text in
        let len = length-append text (0 ∷ rest) in
        let byte : (i : ℕ) → i < m → get_or s (at + i) 0 ≡ get_or text i 0 =
        λ i l. byte_of_lem at (text ++ 0 ∷ rest) h i (omega arith) ∙ get_or-append text (0 ∷ rest) 0 i l in
        let end : get_or s (at + m) 0 ≡ 0 =
        byte_of_lem at (text ++ 0 ∷ rest) h m (omega arith) ∙ get_or-append_seam text 0 rest 0 in
        let a : n - 1 < m → ⊥ = λ l. whole (n - 1) l (sym (byte (n - 1) l) ∙ last_zero) in
        let b : m + 1 < n → ⊥ = λ l. single_text s n at (at + n) single m (omega arith) end in
        omega arith

    length_part : length (take n (drop at s)) ≡ n
    length_part = length-take-le n (drop at s) (let l = length-drop at s in omega arith)

    pub text_here : (text : List ℕ) → Whole text
        → (take n (drop at s) ≡ text ++ 0 ∷ []) ↔ (take (length (text ++ 0 ∷ [])) (drop at s) ≡ text ++ 0 ∷ [])
    text_here text whole = (
      λ h. subst (λ (k : ℕ). take k (drop at s) ≡ text ++ 0 ∷ []) (sym length_part ∙ ap length h) h,
      λ h.
          let len = length-append text (0 ∷ []) in
          let e : length (text ++ 0 ∷ []) ≡ n = let k = text_length text [] whole h in omega arith in
          subst (λ (k : ℕ). take k (drop at s) ≡ text ++ 0 ∷ []) e h,
    )

    -- the string's text
    abbrev first : List ℕ
    first = take (n - 1) (drop at s)

    length_first : length first ≡ n - 1
    length_first = length-take-le (n - 1) (drop at s) (let l = length-drop at s in omega arith)

    first_zero : take n (drop at s) ≡ first ++ 0 ∷ []
    first_zero =
        let l = length-drop at s in
        let e : n ≡ suc (n - 1) = omega arith in
        let z = get_or-drop at s (n - 1) 0 ∙ last_zero in
        subst (λ (k : ℕ). take k (drop at s) ≡ first ++ 0 ∷ []) (sym e)
        (take-suc (drop at s) (n - 1) 0 (omega arith) ∙ ap (λ (b : ℕ). first ++ b ∷ []) z)

    first_whole : Whole first
    first_whole i l q =
        let m = length_first in
        single_text s n at (at + n) single i (omega arith)
        (sym (get_or-drop at s i 0) ∙ sym (get_or-take (n - 1) (drop at s) i 0 (omega arith)) ∙ q)

    -- strings behind it
    module _ (n' count : ℕ) where
      slash_first : SlashEnds s (n + n') at → Directory first
      slash_first h =
          let k = h (at + (n - 1)) (omega arith) (omega arith) last_zero in
          let more = k.0 in
          let l = length-drop at s in
          let e : n - 1 ≡ suc (n - 2) = omega arith in
          let v : at + (n - 1) - 1 ≡ at + (n - 2) = omega arith in
          let z = get_or-drop at s (n - 2) 0 ∙ rw v at k.1 in
          record {
            whole = first_whole;
            slash = (
              take (n - 2) (drop at s),
              ap (λ (j : ℕ). take j (drop at s)) e ∙ take-suc (drop at s) (n - 2) 0 (omega arith)
                  ∙ ap (λ (b : ℕ). take (n - 2) (drop at s) ++ b ∷ []) z,
            );
          }

      slash_rest : SlashEnds s (n + n') at → SlashEnds s n' (at + n)
      slash_rest h z l m q =
          let k = h z (omega arith) (omega arith) q in
          let apart : z ≡ at + n → ⊥ =
          λ e. let v : z - 1 ≡ at + (n - 1) = omega arith in
          let w = sym (rw v at k.1) ∙ last_zero in omega arith in
          (omega arith, k.1)

      with_first : SlashEnds s (n + n') at → Directories s (at + n) count → Directories s at (suc count)
      unfolding in_row
      with_first h d =
          let row = in_row d.texts in
          let m = length_first in
          let len = length-append first (0 ∷ row) in
          let e : length (first ++ 0 ∷ row) ≡ n + length row = omega arith in
          let behind = ap (take (length row)) (drop-drop n at s) ∙ d.bytes in
          record {
            texts = first ∷ d.texts;
            number = ap suc d.number;
            bytes =
                ap (λ (k : ℕ). take k (drop at s)) e ∙ take-add n (length row) (drop at s)
                ∙ ap (λ (x : List ℕ). x ++ take (length row) (drop n (drop at s))) first_zero
                ∙ ap (λ (x : List ℕ). (first ++ 0 ∷ []) ++ x) behind
                ∙ append_assoc first (0 ∷ []) row;
            each = (slash_first h, d.each);
          }

      -- the other way round
      module _ (text : List ℕ) (rest : List (List ℕ)) (dir : Directory text)
          (bytes : take (length (text ++ 0 ∷ in_row rest)) (drop at s) ≡ text ++ 0 ∷ in_row rest) where
        here : length text + 1 ≡ n
        here = text_length text (in_row rest) dir.whole bytes

        rest_bytes : take (length (in_row rest)) (drop (at + n) s) ≡ in_row rest
        rest_bytes =
            let row = in_row rest in
            let len = length-append text (0 ∷ row) in
            let l = here in
            let e : length (text ++ 0 ∷ row) ≡ n + length row = omega arith in
            let head = length-append text (0 ∷ []) in
            let whole : take n (drop at s) ++ take (length row) (drop n (drop at s)) ≡ (text ++ 0 ∷ []) ++ row =
            sym (take-add n (length row) (drop at s)) ∙ sym (ap (λ (k : ℕ). take k (drop at s)) e) ∙ bytes
            ∙ sym (append_assoc text (0 ∷ []) row) in
            ap (take (length row)) (sym (drop-drop n at s))
            ∙ sym (drop_at (take n (drop at s)) (take (length row) (drop n (drop at s))) n length_part)
            ∙ ap (drop n) whole
            ∙ drop_at (text ++ 0 ∷ []) row n (omega arith)

        last_slash : (1 ≤ length text) × (get_or s (at + (n - 1) - 1) 0 ≡ 0x2F)
        last_slash =
            let f = dir.slash.0 in
            let e = dir.slash.1 in
            let row = in_row rest in
            let len = length-append text (0 ∷ row) in
            let lf = ap length e ∙ length-append f (0x2F ∷ []) in
            let l = here in
            let v : at + (n - 1) - 1 ≡ at + length f = omega arith in (
              omega arith,
              rw v
                  (byte_of_lem at (text ++ 0 ∷ row) bytes (length f) (omega arith)
                  ∙ get_or-append text (0 ∷ row) 0 (length f) (omega arith)
                  ∙ ap (λ (x : List ℕ). get_or x (length f) 0) e
                  ∙ get_or-append_seam f 0x2F [] 0),
            )

        slashes : SlashEnds s n' (at + n) → SlashEnds s (n + n') at
        slashes h z l m q = go (order z (at + (n - 1)))
          where
            go : (z < at + (n - 1)) ⊎ (z ≡ at + (n - 1)) ⊎ (at + (n - 1) < z) → (at < z) × (get_or s (z - 1) 0 ≡ 0x2F)
            go (inl k) =
                let v : at + (z - at) ≡ z = omega arith in
                absurd (single_text s n at (at + n) single (z - at) (omega arith) (rw v q))
            go (inr (inl k)) = let b = last_slash in let t = here in let a = b.0 in (omega arith, rw k b.1)
            go (inr (inr k)) = let b = h z (omega arith) (omega arith) q in (omega arith, b.1)

      row_step : SlashEnds s n' (at + n) ↔ Directories s (at + n) count
          → SlashEnds s (n + n') at ↔ Directories s at (suc count)
      unfolding in_row
      row_step f = (
        λ h. with_first h (f.0 (slash_rest h)),
        λ d. go d.texts d.number d.bytes d.each,
      )
        where
          go : (texts : List (List ℕ)) → length texts ≡ suc count
              → take (length (in_row texts)) (drop at s) ≡ in_row texts → Each texts Directory → SlashEnds s (n + n') at
          go [] number bytes each = absurd (omega arith)
          go (text ∷ rest) number bytes each =
              let behind = rest_bytes text rest each.0 bytes in
              slashes text rest each.0 bytes
              (f.1 (record { texts = rest; number = omega arith; bytes = behind; each = each.1 }))

  no_rows : (n at : ℕ) → n ≡ 0 → SlashEnds s n at ↔ Directories s at 0
  unfolding in_row
  no_rows n at e = (
    λ h. record { texts = []; number = refl; bytes = refl; each = tt },
    λ d z l m q. absurd (omega arith),
  )

  none_end : (n at : ℕ) → strings_from s n at 0 ≡ Some (at + n) → at ≡ at + n
  unfolding strings_from
  none_end n at h = cc

  -- the first of some strings, then the rest
  rows_step : (count n at : ℕ) → strings_from s n at (suc count) ≡ Some (at + n) → at + n ≤ length s
      → ((n at : ℕ) → strings_from s n at count ≡ Some (at + n) → at + n ≤ length s
      → SlashEnds s n at ↔ Directories s at count)
      → SlashEnds s n at ↔ Directories s at (suc count)
  rows_step count n at h fits rest =
      let c = split s n at 1 count (suc count) (at + n) (omega arith) h in
      let m = c.0 in
      let b = bound s n at 1 m c.1 in
      let p = positive s n at 1 m c.1 (omega arith) in
      let v : at + (m - at) ≡ m = omega arith in
      let w : m - at + (at + n - m) ≡ n = omega arith in
      let u : m + (at + n - m) ≡ at + n = omega arith in
      let one : strings_from s (m - at) at 1 ≡ Some (at + (m - at)) = rw v (tight s n at 1 m c.1) in
      let step = row_step at (m - at) one (omega arith) (omega arith) (at + n - m) count in
      rw w at (step (rw v (rest (at + n - m) m (rw u c.2) (omega arith))))

  pub rows_lawful : (count n at : ℕ) → strings_from s n at count ≡ Some (at + n) → at + n ≤ length s
      → SlashEnds s n at ↔ Directories s at count
  rows_lawful zero n at h fits = no_rows n at (let e = none_end n at h in omega arith)
  rows_lawful (suc count) n at h fits = rows_step count n at h fits (rows_lawful count)
