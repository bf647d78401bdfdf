-- A book's bytes as a row of records, as specs/RowTheorems states it: one_way, row_doses, row_sum, pass_is_row. For
-- callers: of the kinds of an edition (known_hold), and of a lawful row (lawful_hold).
use Prim.Native.Nat.{ℕ, zero, suc, ◌+◌, ◌-◌, ◌≤◌, ◌<◌}
use mathlib.Core.Path.{◌≡◌, refl, sym, ap, ◌∙◌}
use mathlib.Core.List.{List, [], ◌∷◌, ◌++◌}
use mathlib.Core.Bool.{Bool, true, false, cond}
use lib.Dec.{leb}
use lib.ListN.{length, take, drop, length-drop, take-append-drop, drop_of_length-le}
use lib.Seq.{length-take-le, drop-cons, drop-drop}
use native.Mathlib.Nat.{sub-zero}
use native.Mathlib.Numerals.{add-one}
use native.Mathlib.Omega.{arith}
use borrow.Author.Tests.{le-leb, leb-true, leb-false}
use Rattle.format.specs.Verdicts.{check, pass}
use Rattle.format.proofs.VerdictLaws.{both_pass}
use Rattle.book.specs.declared.dose.Dose.{Dose}
use Rattle.book.specs.Kinds.{is_weighed, body_size, is_known}
use Rattle.book.specs.Book.{kind_at, record_end, places_from, dose_at, weight_lawful, dose_lawful, record_check, records_check}
use Rattle.book.specs.Doses.{doses_of, sum_of}
use Rattle.book.specs.Rows.{BookRecord, row_bytes, Each, Sized, stated, stated_doses, LawfulWeighed, LawfulRow}
use Rattle.book.specs.RowTheorems.{OneRow, HoldsDose, HoldDoses, PassIsRow, RowDoses, RowSum}
use Rattle.book.proofs.PlaceLaws.{none, step}
use Rattle.book.proofs.RecordsLaws.{walk, weighed, remark, no_doses, check_step, check_nil}
use Rattle.book.proofs.KindLaws.{six}
use Rattle.book.proofs.PassLaws.{lawful_pass, record_pass, pass_first}
use Rattle.book.proofs.RowLaws as rows

pub one_way : OneRow
one_way b row row' p q = rows.one_row row row' (p.bytes ∙ sym q.bytes) p.bodies q.bodies

pub known_hold : (edition : ℕ) → HoldDoses (is_known edition)
known_hold edition kind k w = six edition kind (le-leb 128 kind w) k

pub lawful_hold : (known : ℕ → Bool) → HoldDoses known → (row : List BookRecord) → Each Sized row → LawfulRow known row
    → Each HoldsDose row
lawful_hold known hold [] s l = tt
lawful_hold known hold (r ∷ rest) s l =
    (λ w. let h = hold r.kind (l.0 w).kind w in omega (arith, s.0), lawful_hold known hold rest s.1 l.1)

stated_none : stated_doses [] ≡ []
unfolding stated_doses
stated_none = refl

stated_step : (r : BookRecord) (rest : List BookRecord)
    → stated_doses (r ∷ rest) ≡ cond (leb 128 r.kind) (stated r ∷ stated_doses rest) (stated_doses rest)
unfolding stated_doses
stated_step r rest = refl

-- at the end of a book no record is left
gone : (b : List ℕ) (at : ℕ) → drop at b ≡ row_bytes [] → length b ≤ at
gone b at h = omega (arith, ap length (h ∙ rows.row_none), length-drop at b)

-- a record at a place, and then a row
module _ (b : List ℕ) (at : ℕ) (r : BookRecord) (rest : List BookRecord) (h : drop at b ≡ row_bytes (r ∷ rest))
    (s : Sized r) where
  here : drop at b ≡ r.kind ∷ (r.body ++ row_bytes rest)
  here = h ∙ rows.row_step r rest

  weighed_as_lem : {w : Bool} → leb 128 r.kind ≡ w → w ≡ is_weighed (kind_at b at)
  weighed_as_lem e = sym (ap (λ (k : ℕ). leb 128 k) (rows.kind_here b at r (row_bytes rest) here) ∙ e)

  first_dose : HoldsDose r → stated_doses rest
      ≡ doses_of b (places_from b (length b - (at + 1 + length r.body)) (at + 1 + length r.body))
      → doses_of b (places_from b (length b - at) at) ≡ stated_doses (r ∷ rest)
  first_dose d later = go (leb 128 r.kind) refl
    where
      go : (w : Bool) → leb 128 r.kind ≡ w → doses_of b (places_from b (length b - at) at) ≡ stated_doses (r ∷ rest)
      go true e =
          weighed b at (rows.inside b at r (row_bytes rest) here) (rows.end_here b at r (row_bytes rest) here s)
          {w = true} (weighed_as_lem e) refl (rows.dose_here b at r (row_bytes rest) here (d (leb-true 128 r.kind e)) s)
          ∙ sym (stated_step r rest ∙ rw (e, later))
      go false e =
          remark b at (rows.inside b at r (row_bytes rest) here) (rows.end_here b at r (row_bytes rest) here s)
          {w = false} (weighed_as_lem e) refl
          ∙ sym (stated_step r rest ∙ rw (e, later))

doses_from : (b : List ℕ) (row : List BookRecord) (at : ℕ) → drop at b ≡ row_bytes row → Each Sized row
    → Each HoldsDose row → doses_of b (places_from b (length b - at) at) ≡ stated_doses row
doses_from b [] at h s d = no_doses b at (gone b at h) ∙ sym stated_none
doses_from b (r ∷ rest) at h s d =
    let after = rows.behind b at r (row_bytes rest) (here b at r rest h s.0) in
    first_dose b at r rest h s.0 d.0
    (sym (doses_from b rest (at + 1 + length r.body) after s.1 d.1))

pub row_doses : RowDoses
row_doses b row p d =
    ap (λ (n : ℕ). doses_of b (places_from b n 0)) (sym (sub-zero (length b)))
    ∙ doses_from b row 0 (sym p.bytes) p.bodies d

pub row_sum : RowSum
row_sum b row p d = ap sum_of (row_doses b row p d)

-- what is asked of weighed records only
asked : (kind : ℕ) (rule : Bool) → (128 ≤ kind → rule ≡ true) → cond (is_weighed kind) rule true ≡ true
asked kind rule f = go (is_weighed kind) refl
  where
    go : (w : Bool) → is_weighed kind ≡ w → cond w rule true ≡ true
    go true e = f (leb-true 128 kind e)
    go false e = refl

lawful_of : (dose : Dose) → (1 ≤ dose.oxide.0) × (dose.oxide.0 ≤ 999)
    → (1 ≤ dose.milligrams.0) × (dose.milligrams.0 ≤ 5000000) → dose_lawful dose ≡ true
unfolding weight_lawful
lawful_of dose o m =
    rw (
      le-leb 1 dose.oxide.0 o.0,
      le-leb dose.oxide.0 999 o.1,
      le-leb 1 dose.milligrams.0 m.0,
      le-leb dose.milligrams.0 5000000 m.1,
    )

module _ (known : ℕ → Bool) (hold : HoldDoses known) (b : List ℕ) where
  -- a lawful record passes 20 to 22
  record_right : (at : ℕ) (r : BookRecord) (rest : List BookRecord) → drop at b ≡ row_bytes (r ∷ rest) → Sized r
      → (128 ≤ r.kind → LawfulWeighed known r) → record_check known b at ≡ pass
  unfolding record_check check
  record_right at r rest h s l =
      let from = here b at r rest h s in
      let k = rows.kind_here b at r (row_bytes rest) from in
      let e = rows.end_here b at r (row_bytes rest) from s in
      let f = rows.ends b at r (row_bytes rest) from in
      let dose : 128 ≤ r.kind → stated r ≡ dose_at b at =
      λ w. let m = hold r.kind (l w).kind w in rows.dose_here b at r (row_bytes rest) from (omega arith) s in
      rw (
        asked (kind_at b at) (known (kind_at b at)) (λ w. ap known k ∙ (l (omega arith)).kind),
        le-leb (record_end b at) (length b) (omega arith),
        asked (kind_at b at) (dose_lawful (dose_at b at)) (
            λ w.
            let v : 128 ≤ r.kind = omega arith in
            sym (ap dose_lawful (dose v)) ∙ lawful_of (stated r) (l v).oxide (l v).milligrams
            ),
      )

  rows_pass : (row : List BookRecord) (at : ℕ) → drop at b ≡ row_bytes row → Each Sized row → LawfulRow known row
      → records_check known b (places_from b (length b - at) at) ≡ pass
  rows_pass [] at h s l = ap (records_check known b) (none b _ at (gone b at h)) ∙ check_nil known b
  rows_pass (r ∷ rest) at h s l =
      let from = here b at r rest h s.0 in
      let more = rows_pass rest (at + 1 + length r.body) (rows.behind b at r (row_bytes rest) from) s.1 l.1 in
      ap (records_check known b)
      (walk b at (rows.inside b at r (row_bytes rest) from) (rows.end_here b at r (row_bytes rest) from s.0))
      ∙ check_step known b _ at
      ∙ both_pass (record_right at r rest h s.0 l.0)
      ∙ more

  -- the record that stands at a place
  abbrev there : ℕ → BookRecord
  there at = record { kind = kind_at b at; body = take (body_size (kind_at b at)) (drop (at + 1) b) }

  module _ (at : ℕ) (l : at < length b) (m : record_end b at ≤ length b) where
    there_sized : Sized (there at)
    there_sized = length-take-le (body_size (kind_at b at)) (drop (at + 1) b) (omega (arith, length-drop (at + 1) b))

    there_bytes : drop at b ≡ kind_at b at ∷ ((there at).body ++ drop (record_end b at) b)
    there_bytes =
        let first : drop at b ≡ kind_at b at ∷ drop (at + 1) b = rw add-one (drop-cons b at 0 l) in
        first ∙ ap (λ (t : List ℕ). kind_at b at ∷ t)
        (sym (take-append-drop (body_size (kind_at b at)) (drop (at + 1) b))
        ∙ ap (λ (t : List ℕ). (there at).body ++ t) (drop-drop (body_size (kind_at b at)) (at + 1) b))

    there_lawful : record_check known b at ≡ pass → 128 ≤ kind_at b at → LawfulWeighed known (there at)
    there_lawful p w =
        let f = record_pass known b at p in
        let t = le-leb 128 (kind_at b at) w in
        let k : known (kind_at b at) ≡ true = rw t at f.0 in
        let o : dose_lawful (dose_at b at) ≡ true = rw t at f.2 in
        let six = hold (kind_at b at) k w in
        let size = there_sized in
        let d = rows.dose_here b at (there at) (drop (record_end b at) b) there_bytes (omega arith) size in
        let u = lawful_pass (stated (there at)) (ap dose_lawful d ∙ o) in
        record { kind = k; oxide = (u.0, u.1); milligrams = (u.2, u.3) }

  -- a row that is lawful and whose bytes stand from a place on
  abbrev Found : ℕ → Type 0
  Found at = (row : List BookRecord) × (row_bytes row ≡ drop at b) × Each Sized row × LawfulRow known row

  found_none : (at : ℕ) → length b ≤ at → Found at
  found_none at h = ([], rows.row_none ∙ sym (drop_of_length-le b h), tt, tt)

  found_more : (at n : ℕ) → at < length b → records_check known b (at ∷ places_from b n (record_end b at)) ≡ pass
      → (record_end b at ≤ length b → records_check known b (places_from b n (record_end b at)) ≡ pass → Found (record_end b at))
      → Found at
  found_more at n l p later =
      let f = pass_first known b at (places_from b n (record_end b at)) p in
      let m = (record_pass known b at f.0).1 in
      let rest = later m f.1 in (
        there at ∷ rest.0,
        rows.row_step (there at) rest.0
            ∙ ap (λ (t : List ℕ). kind_at b at ∷ ((there at).body ++ t)) rest.1
            ∙ sym (there_bytes at l m),
        (there_sized at l m, rest.2),
        (there_lawful at l m f.0, rest.3),
      )

  found : (n at : ℕ) → length b ≤ at + n → records_check known b (places_from b n at) ≡ pass → Found at
  found zero at h p = found_none at (omega arith)
  found (suc n) at h p = go (leb (length b) at) refl (λ q. found n (record_end b at) (omega arith) q)
    where
      go : (t : Bool) → leb (length b) at ≡ t
          → (records_check known b (places_from b n (record_end b at)) ≡ pass → Found (record_end b at)) → Found at
      go true e later = found_none at (leb-true (length b) at e)
      go false e later =
          found_more at n (leb-false (length b) at e) (ap (records_check known b) (sym (step b n at ∙ rw e)) ∙ p)
          (λ m q. later q)

pub pass_is_row : PassIsRow
pass_is_row known hold b = (
  λ p. let f = found known hold b (length b) 0 (omega arith) p in (f.0, record { bytes = f.1; bodies = f.2 }, f.3),
  λ q.
      ap (λ (n : ℕ). records_check known b (places_from b n 0)) (sym (sub-zero (length b)))
      ∙ rows_pass known hold b q.0 0 (sym q.1.bytes) q.1.bodies q.2,
)
