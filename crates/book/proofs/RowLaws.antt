-- Rows of records and their bytes. Two rows of the same bytes (parts, one_row); the bytes that begin with a record: its
-- kind, its end and what stands behind it (kind_here, inside, ends, end_here, behind), and its dose (dose_here).
use Prim.Native.Nat.{ℕ, suc, ◌+◌, ◌*◌, ◌%◌, ◌≤◌, ◌<◌}
use mathlib.Core.Path.{◌≡◌, refl, sym, ap, ◌∙◌}
use mathlib.Core.List.{List, [], ◌∷◌, ◌++◌}
use mathlib.Core.Bool.{Bool, true, false}
use lib.Dec.{eqb}
use lib.ListN.{length, get_or, take, drop, length-append, length-drop, get_or-append}
use lib.Seq.{take-append_seam, drop-append_seam, get_or-drop, drop-drop}
use native.Mathlib.Omega.{arith}
use borrow.Author.Tests.{eqb-true, eqb-false}
use Rattle.be.specs.Numbers.{be16_at, be32_at}
use Rattle.book.specs.Book.{kind_at, record_end, oxide_place, milligrams_place, dose_at}
use Rattle.book.specs.Rows.{BookRecord, row_bytes, Each, Sized, value_from, value, stated}
use Rattle.book.proofs.DoseLaws.{read, lot_here, no_lot_lem}

pub row_none : row_bytes [] ≡ []
unfolding row_bytes
row_none = refl

pub row_step : (r : BookRecord) (rest : List BookRecord) → row_bytes (r ∷ rest) ≡ r.kind ∷ (r.body ++ row_bytes rest)
unfolding row_bytes
row_step r rest = refl

-- two lists that begin with parts of one length
parts : (xs ys s t : List ℕ) → length xs ≡ length ys → xs ++ s ≡ ys ++ t → (xs ≡ ys) × (s ≡ t)
parts xs ys s t e h = (
  sym (take-append_seam xs s) ∙ ap (take (length xs)) h ∙ rw e (take-append_seam ys t),
  sym (drop-append_seam xs s) ∙ ap (drop (length xs)) h ∙ rw e (drop-append_seam ys t),
)

same_record : (r q : BookRecord) → r.kind ≡ q.kind → r.body ≡ q.body → r ≡ q
same_record r q k b =
    ap {B = BookRecord} (λ (n : ℕ). record { kind = n; body = r.body }) k
    ∙ ap {B = BookRecord} (λ (l : List ℕ). record { kind = q.kind; body = l }) b

pub one_row : (row row' : List BookRecord) → row_bytes row ≡ row_bytes row' → Each Sized row → Each Sized row' → row ≡ row'
unfolding row_bytes
one_row [] [] h s t = refl
one_row [] (q ∷ more) h s t = let z : ◌≡◌ {A = ℕ} 0 1 = cc in absurd (omega arith)
one_row (r ∷ rest) [] h s t = let z : ◌≡◌ {A = ℕ} 0 1 = cc in absurd (omega arith)
one_row (r ∷ rest) (q ∷ more) h s t =
    let k : r.kind ≡ q.kind = cc in
    let m : r.body ++ row_bytes rest ≡ q.body ++ row_bytes more = cc in
    let e : length r.body ≡ length q.body = s.0 ∙ ap (λ (n : ℕ). n % 16) k ∙ sym t.0 in
    let p = parts r.body q.body (row_bytes rest) (row_bytes more) e m in
    let first = same_record r q k p.0 in
    let later = one_row rest more p.1 s.1 t.1 in
    rw (first, later)

-- numbers of bytes
two : (l : List ℕ) → 2 ≤ length l → value (take 2 l) ≡ get_or l 0 0 * 256 + get_or l 1 0
unfolding value_from
two [] h = absurd (omega arith)
two (a ∷ []) h = absurd (omega arith)
two (a ∷ b ∷ l) h = omega arith

four : (l : List ℕ) → 4 ≤ length l
    → value (take 4 l) ≡ get_or l 0 0 * 16777216 + get_or l 1 0 * 65536 + get_or l 2 0 * 256 + get_or l 3 0
unfolding value_from
four [] h = absurd (omega arith)
four (a ∷ []) h = absurd (omega arith)
four (a ∷ b ∷ []) h = absurd (omega arith)
four (a ∷ b ∷ c ∷ []) h = absurd (omega arith)
four (a ∷ b ∷ c ∷ d ∷ l) h = omega arith

-- from a place on stand a record's bytes, and then some others
module _ (b : List ℕ) (at : ℕ) (r : BookRecord) (rest : List ℕ) (h : drop at b ≡ r.kind ∷ (r.body ++ rest)) where
  byte_at : (n i : ℕ) → n ≡ at + i → get_or b n 0 ≡ get_or (r.kind ∷ (r.body ++ rest)) i 0
  byte_at n i e = rw e (sym (get_or-drop at b i 0) ∙ ap (λ (l : List ℕ). get_or l i 0) h)

  pub kind_here : kind_at b at ≡ r.kind
  kind_here = byte_at at 0 (omega arith)

  pub ends : at + 1 + length r.body ≤ length b
  ends = omega (arith, ap length h, length-drop at b, length-append r.body rest)

  pub inside : at < length b
  inside = let e = ends in omega arith

  pub end_here : length r.body ≡ r.kind % 16 → at + 1 + length r.body ≡ record_end b at
  end_here e = rw (kind_here, e)

  pub behind : drop (at + 1 + length r.body) b ≡ rest
  behind =
      let e : at + 1 + length r.body ≡ at + suc (length r.body) = omega arith in
      rw e (sym (drop-drop (suc (length r.body)) at b) ∙ ap (drop (suc (length r.body))) h
      ∙ drop-append_seam r.body rest)

  body_at : (n k : ℕ) → n ≡ at + 1 + k → k < length r.body → get_or b n 0 ≡ get_or r.body k 0
  body_at n k e l = byte_at n (suc k) (omega arith) ∙ get_or-append r.body rest 0 k l

  module _ (m : 6 ≤ length r.body) where
    oxide_here : be16_at b (at + oxide_place) ≡ value (take 2 r.body)
    unfolding be16_at
    oxide_here =
        rw (
          two r.body (omega arith),
          body_at (at + oxide_place) 0 (omega arith) (omega arith),
          body_at (at + oxide_place + 1) 1 (omega arith) (omega arith),
        )

    milligrams_here : be32_at b (at + milligrams_place) ≡ value (take 4 (drop 2 r.body))
    unfolding be32_at
    milligrams_here =
        rw (
          four (drop 2 r.body) (omega (arith, length-drop 2 r.body)),
          get_or-drop 2 r.body 0 0,
          get_or-drop 2 r.body 1 0,
          get_or-drop 2 r.body 2 0,
          get_or-drop 2 r.body 3 0,
          body_at (at + milligrams_place) 2 (omega arith) (omega arith),
          body_at (at + milligrams_place + 1) 3 (omega arith) (omega arith),
          body_at (at + milligrams_place + 2) 4 (omega arith) (omega arith),
          body_at (at + milligrams_place + 3) 5 (omega arith) (omega arith),
        )

    -- kind AA has 10 bytes, of which the last four are the lot
    lot_bytes : length r.body ≡ r.kind % 16 → r.kind ≡ 0xAA → value (take 4 (drop 6 r.body)) ≡ be32_at b (at + 7)
    unfolding be32_at
    lot_bytes s k =
        let ten : length r.body ≡ 10 = s ∙ ap (λ (n : ℕ). n % 16) k in
        rw (
          four (drop 6 r.body) (omega (arith, length-drop 6 r.body)),
          get_or-drop 6 r.body 0 0,
          get_or-drop 6 r.body 1 0,
          get_or-drop 6 r.body 2 0,
          get_or-drop 6 r.body 3 0,
          body_at (at + 7) 6 (omega arith) (omega arith),
          body_at (at + 7 + 1) 7 (omega arith) (omega arith),
          body_at (at + 7 + 2) 8 (omega arith) (omega arith),
          body_at (at + 7 + 3) 9 (omega arith) (omega arith),
        )

    lot_stated : length r.body ≡ r.kind % 16 → (stated r).lot ≡ (dose_at b at).lot
    lot_stated s = go (eqb r.kind 0xAA) refl
      where
        go : (t : Bool) → eqb r.kind 0xAA ≡ t → (stated r).lot ≡ (dose_at b at).lot
        go true e =
            let k = eqb-true r.kind 0xAA e in
            rw e (lot_here b at (kind_here ∙ k) (lot_bytes s k))
        go false e = rw e (no_lot_lem b at (λ k. eqb-false r.kind 0xAA e (sym kind_here ∙ k)))

    pub dose_here : length r.body ≡ r.kind % 16 → stated r ≡ dose_at b at
    dose_here s = read b at (sym oxide_here) (sym milligrams_here) (lot_stated s)
