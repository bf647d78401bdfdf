-- Laws of `find_from`, one for each way through a turn of the search.
use Prim.Native.Nat.{ℕ, zero, suc, ◌+◌, ◌-◌, ◌≤◌, ◌<◌}
use mathlib.Core.Path.{◌≡◌, refl, sym, ap, ◌∙◌}
use mathlib.Core.List.{List}
use mathlib.Core.Bool.{Bool, true, false, cond}
use lib.ListN.{length, take, drop}
use lib.Dec.{eqb}
use native.Mathlib.Omega.{arith}
use borrow.Author.Tests.{eq-eqb, ne_eqb, eqb-true}
use Rattle.be.specs.Numbers.{be32_at}
use Rattle.among.specs.Among.{has_tag, first_from}
use Rattle.among.proofs.FirstLaws.{behind, holds}
use Rattle.among.proofs.RowLaws.{row}
use Rattle.format.specs.declared.section.Section.{Section}
use Rattle.format.specs.declared.records.IndexRecord.{IndexRecord}
use Rattle.format.specs.Places.{record_place}
use Rattle.format.specs.Records.{index_record_at}
use Rattle.index.specs.declared.Entry.{Entry}
use Rattle.entries.specs.Entries.{record_at, data_end}
use Rattle.index.specs.Lookup.{entry_of, entry_at, is_for, find_from}
use Rattle.std.specs.Prelude.{Option, Some, None}

module _ (s : List ℕ) (section : Section) (tag ty : ℕ) where
  pub none : (n i : ℕ) → n ≡ 0 → None ≡ find_from s section n i tag ty
  unfolding find_from
  none n i h = rw h

  step : (n i : ℕ) → find_from s section (suc n) i tag ty
      ≡ cond (is_for tag ty (record_at s section i)) (Some (entry_at s section i)) (find_from s section n (i + 1) tag ty)
  unfolding find_from
  step n i = refl

  unrolled : (n i : ℕ) → i < n → find_from s section (n - i) i tag ty
      ≡ cond (is_for tag ty (record_at s section i)) (Some (entry_at s section i)) (find_from s section (n - (i + 1)) (i + 1) tag ty)
  unrolled n i l =
      let k : n - i ≡ suc (n - (i + 1)) = omega arith in
      rw k (step (n - (i + 1)) i)

-- records without the tag are passed over
skip : (s : List ℕ) (section : Section) (tag ty : ℕ) (test : ℕ → Bool)
    → ((k : ℕ) → test k ≡ eqb (be32_at s (record_place section k)) tag) → (n i : ℕ)
    → find_from s section n i tag ty ≡ find_from s section (n + i - first_from test n i) (first_from test n i) tag ty
unfolding first_from find_from
skip s section tag ty test same zero i = let k : 0 + i - i ≡ 0 = omega arith in rw k
skip s section tag ty test same (suc n) i = go (test i) refl (skip s section tag ty test same n (i + 1))
  where
    go : (b : Bool) → test i ≡ b
        → find_from s section n (i + 1) tag ty
        ≡ find_from s section (n + (i + 1) - first_from test n (i + 1)) (first_from test n (i + 1)) tag ty
        → cond (is_for tag ty (record_at s section i)) (Some (entry_at s section i)) (find_from s section n (i + 1) tag ty)
        ≡ find_from s section (suc n + i - cond b i (first_from test n (i + 1))) (cond b i (first_from test n (i + 1))) tag ty
    go true h more = let k : suc n + i - i ≡ suc n = omega arith in rw k
    go false h more =
        let k : suc n + i - first_from test n (i + 1) ≡ n + (i + 1) - first_from test n (i + 1) = omega arith in
        rw (k, sym (same i) ∙ h) more

-- fewer are left behind the record that was found
pub fewer : (test : ℕ → Bool) (n from : ℕ) {i : ℕ} → i ≡ first_from test (n - from) from → from < n → n - (i + 1) < n - from
fewer test n from q l = let b = behind test (n - from) from in omega arith

-- in the shape of what is known in a turn: v is what the search began with, the records from `from` on are left, i is the first of
-- them that has the tag, e the record that was read there
module _ (s : List ℕ) (section : Section) (tag ty n from : ℕ) {at i : ℕ} {part : List ℕ} {v : Option Entry}
    (q : i ≡ first_from (has_tag part tag) (n - from) from) (p : part ≡ take (length s) (drop at s)) (d : at ≡ record_place section 0)
    (inv : v ≡ find_from s section (n - from) from tag ty) (l : from < n) where
  same : (k : ℕ) → has_tag part tag k ≡ eqb (be32_at s (record_place section k)) tag
  unfolding has_tag
  same k = ap (λ (m : ℕ). eqb m tag) (row s section d p k)

  passed : v ≡ find_from s section (n - i) i tag ty
  passed =
      let k : n - from + from ≡ n = omega arith in
      inv ∙ skip s section tag ty (has_tag part tag) same (n - from) from ∙ rw (k, ← q)

  pub absent : n ≤ i → None ≡ v
  absent m = none s section tag ty (n - i) i (omega arith) ∙ sym passed

  module _ (m : i < n) where
    tagged : be32_at s (record_place section i) ≡ tag
    tagged =
        let k : i < from + (n - from) = omega arith in
        let found = rw (← q) at (holds (has_tag part tag) (n - from) from (rw q at k)) in
        eqb-true (be32_at s (record_place section i)) tag (sym (same i) ∙ found)

    module _ {place : ℕ} (g : place ≡ record_place section i) {e : IndexRecord} (h : e ≡ index_record_at s place) where
      here : e ≡ record_at s section i
      here = h ∙ ap (index_record_at s) g

      same_type : (b : Bool) → eqb e.ty ty ≡ b → is_for tag ty (record_at s section i) ≡ b
      same_type b k = rw (eq-eqb (be32_at s (record_place section i)) tag tagged) (rw here at k)

      pub other_type : (e.ty ≡ ty → ⊥) → v ≡ find_from s section (n - (i + 1)) (i + 1) tag ty
      other_type k = passed ∙ unrolled s section tag ty n i m ∙ rw (same_type false (ne_eqb e.ty ty k))

      pub ends : {end : Option ℕ} {entry : Entry} → e.ty ≡ ty → end ≡ data_end s section e → entry ≡ entry_of section e end
          → Some entry ≡ v
      ends k f j =
          ap Some (rw (f, here) at j)
          ∙ sym (passed ∙ unrolled s section tag ty n i m ∙ rw (same_type true (eq-eqb e.ty ty k)))

pub spent : (s : List ℕ) (section : Section) (tag ty n i : ℕ) {v : Option Entry} → v ≡ find_from s section (n - i) i tag ty → n ≤ i
    → None ≡ v
spent s section tag ty n i inv l = none s section tag ty (n - i) i (omega arith) ∙ sym inv
