-- Checks 9 to 13 of one index record are what the rules say of it: record_lawful, tags_lawful.
use Prim.Native.Nat.{ℕ, zero, suc, ◌+◌, ◌-◌, ◌*◌, ◌%◌, ◌≤◌, ◌<◌}
use mathlib.Core.Path.{◌≡◌, refl}
use mathlib.Core.Logic.{⊎_elim, ◌↔◌, ◌≢◌}
use mathlib.Core.List.{List}
use mathlib.Core.Bool.{Bool, true, false, cond, ◌||◌}
use lib.Dec.{eqb, leb}
use native.Mathlib.Omega.{arith}
use native.Mathlib.Nat.{eq-or-lt_of_le}
use borrow.Author.Tests.{eqb-true, eqb-false, eq-eqb, leb-true, leb-false}
use Rattle.strings.specs.Strings.{is_ended}
use Rattle.format.specs.declared.section.Section.{Section}
use Rattle.format.specs.declared.section.Structure.{Structure}
use Rattle.format.specs.declared.records.IndexRecord.{IndexRecord}
use Rattle.format.specs.Places.{in_file}
use Rattle.entries.specs.declared.types.ElementSize.{ElementSize}
use Rattle.entries.specs.declared.types.ElementSize.TheVariants.{Bytes, ToZero}
use Rattle.entries.specs.Types.{element_size, is_lawful}
use Rattle.entries.specs.Entries.{record_at, type_lawful, count_right, aligned_to, is_aligned}
use Rattle.entries.specs.Entries.{end_for, data_end, is_inside}
use Rattle.repeats.specs.Repeats.{tag_before}
use Rattle.entries.proofs.RuleLaws.{type_lawful_lem, count_lawful}
use Rattle.demands.specs.Lawful.{zeros_from, LawfulRecord}
use Rattle.demands.proofs.StringLawful.{strings_lawful}
use Rattle.std.specs.Prelude.{Option, Some, None}

module _ (structure : Structure) (s : List ℕ) (section : Section) (e : IndexRecord) where
  -- 11
  aligned_lawful : (size : Option ElementSize)
      → (aligned_to size e.offset.0 ≡ true) ↔ ((n : ℕ) → size ≡ Some (Bytes n) → e.offset.0 % n ≡ 0)
  aligned_lawful (Some (Bytes m)) = (
    λ h n q. let w : m ≡ n = cc in rw (← w) (eqb-true _ _ h),
    λ h. eq-eqb _ _ (h m refl),
  )
  aligned_lawful (Some ToZero) = (λ h n q. let z : ◌≡◌ {A = ℕ} 0 1 = cc in absurd (omega arith), λ h. refl)
  aligned_lawful None = (λ h n q. let z : ◌≡◌ {A = ℕ} 0 1 = cc in absurd (omega arith), λ h. refl)

  -- 12
  abbrev Fixed : Option ElementSize → Type 0
  Fixed size = (n : ℕ) → size ≡ Some (Bytes n) → e.offset.0 + n * e.count ≤ section.hsize

  abbrev Strings : Option ElementSize → Type 0
  Strings size = size ≡ Some ToZero → e.count ≤ zeros_from s (section.hsize - e.offset.0) (in_file section e.offset)

  bytes_end : (size end : ℕ) → (is_ended (cond (leb size section.hsize) (Some end) None) ≡ true) ↔ (size ≤ section.hsize)
  bytes_end size end = go (leb size section.hsize) refl
    where
      go : (b : Bool) → leb size section.hsize ≡ b → (is_ended (cond b (Some end) None) ≡ true) ↔ (size ≤ section.hsize)
      go true t = (λ h. leb-true _ _ t, λ h. refl)
      go false t = (
        λ h. let z : ◌≡◌ {A = ℕ} 0 1 = cc in absurd (omega arith),
        λ h. let l = leb-false size section.hsize t in absurd (omega arith),
      )

  inside_lawful : (size : Option ElementSize) → is_lawful size ≡ true
      → (is_ended (end_for size s section e) ≡ true) ↔ (Fixed size × Strings size)
  inside_lawful (Some (Bytes m)) r =
      let k = bytes_end (e.offset.0 + m * e.count) (in_file section e.offset + m * e.count) in (
        λ h. (
          λ n q. let w : m ≡ n = cc in rw (← w) (k.0 h),
          λ q. let z : ◌≡◌ {A = ℕ} 0 1 = cc in absurd (omega arith),
        ),
        λ h. k.1 (h.0 m refl),
      )
  inside_lawful (Some ToZero) r =
      let k = strings_lawful s (section.hsize - e.offset.0) (in_file section e.offset) e.count in (
        λ h. (λ n q. let z : ◌≡◌ {A = ℕ} 0 1 = cc in absurd (omega arith), λ q. k.0 h),
        λ h. k.1 (h.1 refl),
      )
  inside_lawful None r = let z : ◌≡◌ {A = ℕ} 0 1 = cc in absurd (omega arith)

  record_rules : type_lawful e ≡ true → count_right structure e ≡ true → is_aligned e ≡ true → is_inside s section e ≡ true
      → LawfulRecord structure s section e
  unfolding data_end
  record_rules h9 h10 h11 h12 =
      let counted = (count_lawful e structure).0 h10 in
      let inside = (inside_lawful (element_size e.ty) h9).0 h12 in
      record {
        type' = (type_lawful_lem e.ty).0 h9;
        count = counted.0;
        single = counted.1;
        translated = counted.2;
        aligned = (aligned_lawful (element_size e.ty)).0 h11;
        fixed = inside.0;
        strings = inside.1;
      }

  record_checks : LawfulRecord structure s section e
      → (type_lawful e ≡ true) × (count_right structure e ≡ true) × (is_aligned e ≡ true) × (is_inside s section e ≡ true)
  unfolding data_end
  record_checks h =
      let lawful = (type_lawful_lem e.ty).1 h.type' in (
        lawful,
        (count_lawful e structure).1 (h.count, h.single, h.translated),
        (aligned_lawful (element_size e.ty)).1 h.aligned,
        (inside_lawful (element_size e.ty) lawful).1 (h.fixed, h.strings),
      )

  pub record_lawful :
      ((type_lawful e ≡ true) × (count_right structure e ≡ true) × (is_aligned e ≡ true) × (is_inside s section e ≡ true))
      ↔ LawfulRecord structure s section e
  record_lawful = (λ h. record_rules h.0 h.1 h.2 h.3, record_checks)

-- 13
pub tags_lawful : (s : List ℕ) (section : Section) (i tag : ℕ)
    → (tag_before s section i tag ≡ false) ↔ ((j : ℕ) → j < i → (record_at s section j).tag ≢ tag)
unfolding tag_before
tags_lawful s section zero tag = (λ h j l. absurd (omega arith), λ h. refl)
tags_lawful s section (suc i) tag = go (eqb (record_at s section i).tag tag) refl (tags_lawful s section i tag)
  where
    go : (b : Bool) → eqb (record_at s section i).tag tag ≡ b
        → (tag_before s section i tag ≡ false) ↔ ((j : ℕ) → j < i → (record_at s section j).tag ≢ tag)
        → ((b || tag_before s section i tag) ≡ false) ↔ ((j : ℕ) → j < suc i → (record_at s section j).tag ≢ tag)
    go true t f = (
      λ h. let z : ◌≡◌ {A = ℕ} 0 1 = cc in absurd (omega arith),
      λ h. absurd (h i (omega arith) (eqb-true _ _ t)),
    )
    go false t f = (
      λ h j l. ⊎_elim (λ e. rw e (eqb-false _ _ t)) (λ m. f.0 h j m) (eq-or-lt_of_le (let m : j ≤ i = omega arith in m)),
      λ h. f.1 (λ j l. h j (omega arith)),
    )
