-- A look-up by tag as the rules say it: tagged_record, tagged_absent, has_tag_lem, lacks_tag, where_absent; and where no two
-- records share a tag, same_record, tagged_only, where_tagged, where_present.
use Prim.Native.Nat.{ℕ, zero, suc, ◌+◌, ◌≤◌, ◌<◌}
use mathlib.Core.Path.{◌≡◌, refl, sym, ap, ◌∙◌}
use mathlib.Core.Logic.{◌↔◌, ◌≢◌}
use mathlib.Core.List.{List}
use mathlib.Core.Bool.{Bool, true, false, cond}
use lib.Dec.{eqb}
use native.Mathlib.Omega.{arith}
use borrow.Author.Tests.{eqb-true, eqb-false}
use Rattle.format.specs.declared.section.Section.{Section}
use Rattle.format.specs.declared.records.IndexRecord.{IndexRecord}
use Rattle.entries.specs.Entries.{record_at}
use Rattle.index.specs.Lookup.{tagged_from, tagged_in}
use Rattle.tags.specs.Tags.{is_present}
use Rattle.demands.specs.Lawful.{HasTag, WhereTagged}
use Rattle.std.specs.Prelude.{Option, Some, None}

module _ (s : List ℕ) (section : Section) (tag : ℕ) where
  -- what is found is a record that has the tag
  tagged_from_lem : (n i : ℕ) (e : IndexRecord) → tagged_from s section n i tag ≡ Some e
      → (k : ℕ) × (i ≤ k) × (k < i + n) × ((record_at s section k).tag ≡ tag) × (e ≡ record_at s section k)
  unfolding tagged_from
  tagged_from_lem zero i e h = let z : ◌≡◌ {A = ℕ} 0 1 = cc in absurd (omega arith)
  tagged_from_lem (suc n) i e h = go (eqb (record_at s section i).tag tag) refl h (tagged_from_lem n (i + 1) e)
    where
      go : (b : Bool) → eqb (record_at s section i).tag tag ≡ b
          → cond b (Some (record_at s section i)) (tagged_from s section n (i + 1) tag) ≡ Some e
          → (tagged_from s section n (i + 1) tag ≡ Some e
          → (k : ℕ) × (i + 1 ≤ k) × (k < i + 1 + n) × ((record_at s section k).tag ≡ tag) × (e ≡ record_at s section k))
          → (k : ℕ) × (i ≤ k) × (k < i + suc n) × ((record_at s section k).tag ≡ tag) × (e ≡ record_at s section k)
      go true t q f = let w : record_at s section i ≡ e = cc in (i, omega arith, omega arith, eqb-true _ _ t, sym w)
      go false t q f = let r = f q in (r.0, omega arith, omega arith, r.3, r.4)

  -- where nothing is found, no record has it
  absent_from : (n i : ℕ) → tagged_from s section n i tag ≡ None
      → (k : ℕ) → k < n → (record_at s section (i + k)).tag ≢ tag
  unfolding tagged_from
  absent_from zero i h = λ k l q. omega arith
  absent_from (suc n) i h = go (eqb (record_at s section i).tag tag) refl h (absent_from n (i + 1))
    where
      go : (b : Bool) → eqb (record_at s section i).tag tag ≡ b
          → cond b (Some (record_at s section i)) (tagged_from s section n (i + 1) tag) ≡ None
          → (tagged_from s section n (i + 1) tag ≡ None → (k : ℕ) → k < n → (record_at s section (i + 1 + k)).tag ≢ tag)
          → (k : ℕ) → k < suc n → (record_at s section (i + k)).tag ≢ tag
      go true t q f k l = let z : ◌≡◌ {A = ℕ} 0 1 = cc in absurd (omega arith)
      go false t q f zero l = let v : i + 0 ≡ i = omega arith in rw v (eqb-false _ _ t)
      go false t q f (suc k) l = let v : i + suc k ≡ i + 1 + k = omega arith in rw v (f q k (omega arith))

  pub tagged_record : (e : IndexRecord) → tagged_in s section tag ≡ Some e
      → (k : ℕ) × (k < section.nindex) × ((record_at s section k).tag ≡ tag) × (e ≡ record_at s section k)
  tagged_record e h = let r = tagged_from_lem section.nindex 0 e h in (r.0, omega arith, r.3, r.4)

  pub tagged_absent : tagged_in s section tag ≡ None → (k : ℕ) → k < section.nindex → (record_at s section k).tag ≢ tag
  tagged_absent h k l =
      let v : 0 + k ≡ k = omega arith in
      rw v at (absent_from section.nindex 0 h k l)

  pub has_tag_lem : (is_present (tagged_in s section tag) ≡ true) ↔ HasTag s section tag
  has_tag_lem = go (tagged_in s section tag) refl
    where
      go : (found : Option IndexRecord) → tagged_in s section tag ≡ found → (is_present found ≡ true) ↔ HasTag s section tag
      go (Some e) q = (λ h. let r = tagged_record e q in (r.0, r.1, r.2), λ h. refl)
      go None q = (
        λ h. let z : ◌≡◌ {A = ℕ} 0 1 = cc in absurd (omega arith),
        λ h. absurd (tagged_absent q h.0 h.1 h.2),
      )

  pub lacks_tag : (is_present (tagged_in s section tag) ≡ false) ↔ (HasTag s section tag → ⊥)
  lacks_tag = go (is_present (tagged_in s section tag)) has_tag_lem
    where
      go : (b : Bool) → (b ≡ true) ↔ HasTag s section tag → (b ≡ false) ↔ (HasTag s section tag → ⊥)
      go true q = (λ h. let z : ◌≡◌ {A = ℕ} 0 1 = cc in absurd (omega arith), λ h. absurd (h (q.0 refl)))
      go false q = (λ h r. let e = q.1 r in let z : ◌≡◌ {A = ℕ} 0 1 = cc in omega arith, λ h. refl)

  pub where_absent : (Rule : IndexRecord → Type 0) → tagged_in s section tag ≡ None → WhereTagged s section tag Rule
  where_absent Rule h i l q = absurd (tagged_absent h i l q)

  -- no two records share a tag
  module _ (apart : (i j : ℕ) → i < section.nindex → j < i → (record_at s section j).tag ≢ (record_at s section i).tag) where
    pub same_record : (i j : ℕ) → i < section.nindex → j < section.nindex
        → (record_at s section i).tag ≡ (record_at s section j).tag → i ≡ j
    same_record i j l m h =
        let a : j < i → ⊥ = λ k. apart i j l k (sym h) in
        let b : i < j → ⊥ = λ k. apart j i m k h in
        omega arith

    pub tagged_only : (i : ℕ) → i < section.nindex → (record_at s section i).tag ≡ tag
        → tagged_in s section tag ≡ Some (record_at s section i)
    tagged_only i l h = go (tagged_in s section tag) refl
      where
        go : (found : Option IndexRecord) → tagged_in s section tag ≡ found → tagged_in s section tag ≡ Some (record_at s section i)
        go (Some e) q =
            let r = tagged_record e q in
            let w = same_record r.0 i r.1 l (r.2 ∙ sym h) in
            q ∙ ap Some (r.3 ∙ ap (record_at s section) w)
        go None q = absurd (tagged_absent q i l h)

    pub where_tagged : (Rule : IndexRecord → Type 0)
        → WhereTagged s section tag Rule ↔ ((e : IndexRecord) → tagged_in s section tag ≡ Some e → Rule e)
    where_tagged Rule = (
      λ h e q. let r = tagged_record e q in rw r.3 (h r.0 r.1 r.2),
      λ h i l q. h (record_at s section i) (tagged_only i l q),
    )

    pub where_present : (Rule : IndexRecord → Type 0) (e : IndexRecord) → tagged_in s section tag ≡ Some e
        → WhereTagged s section tag Rule ↔ Rule e
    where_present Rule e q = (
      λ h. (where_tagged Rule).0 h e q,
      λ h. (where_tagged Rule).1 (λ e' q'. let w : e ≡ e' = cc in rw (← w) h),
    )
