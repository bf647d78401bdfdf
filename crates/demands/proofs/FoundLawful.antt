-- What is asked of the record that a look-up by tag finds, as a rule for every record that has the tag: record_iff,
-- found_iff; the record with a type too: typed_found; its number: number_iff; its count: count_rule, count_iff,
-- counted_iff, below_count_iff, same_count_iff.
use Prim.Native.Nat.{ℕ, ◌<◌}
use mathlib.Core.Path.{◌≡◌, refl, sym, ap, subst, ◌∙◌}
use mathlib.Core.Logic.Iff
use mathlib.Core.Logic.{◌↔◌, ◌≢◌, ◌⊎◌, inl, inr, ⊎_elim}
use mathlib.Core.List.{List}
use mathlib.Core.Bool.{true, false≢true}
use native.Mathlib.Omega.{arith}
use Rattle.be.specs.Numbers.{be32_at}
use Rattle.format.specs.declared.section.Section.{Section}
use Rattle.format.specs.declared.records.IndexRecord.{IndexRecord}
use Rattle.format.specs.Places.{in_file}
use Rattle.entries.specs.Entries.{record_at}
use Rattle.index.specs.Lookup.{entry_at, find_in, tagged_in}
use Rattle.structure.proofs.SoundLaws.{found_record, record_found}
use Rattle.structure.proofs.TagLaws.{for_true, true_for}
use Rattle.tags.specs.Tags.{is_present, count_of, has, count_in, number_at, number_in}
use Rattle.demands.specs.Lawful.{HasTag, WhereTagged, HasCount, SameCount, NumberIs}
use Rattle.demands.proofs.TagLawful.{tagged_record, tagged_absent, same_record, where_absent, where_present}
use Rattle.std.specs.Prelude.{Option, Some, None}

-- no two records of a structure share a tag
abbrev pub Apart : List ℕ → Section → Type 0
Apart s section = (i j : ℕ) → i < section.nindex → j < i → (record_at s section j).tag ≢ (record_at s section i).tag

module _ (s : List ℕ) (section : Section) (apart : Apart s section) (tag : ℕ) where
  -- where nothing is found the rule says nothing: what is asked then holds, or the tag is there
  pub record_iff : (Asked : Option IndexRecord → Type 0) (Rule : IndexRecord → Type 0)
      → ((i : ℕ) → i < section.nindex → (record_at s section i).tag ≡ tag
      → Asked (Some (record_at s section i)) ↔ Rule (record_at s section i))
      → Asked None ⊎ HasTag s section tag → Asked (tagged_in s section tag) ↔ WhereTagged s section tag Rule
  record_iff Asked Rule f none = go (tagged_in s section tag) refl
    where
      go : (found : Option IndexRecord) → tagged_in s section tag ≡ found → Asked found ↔ WhereTagged s section tag Rule
      go (Some e) q =
          let w = where_present s section tag apart Rule e q in
          let r = tagged_record s section tag e q in
          let g : Asked (Some e) ↔ Rule e =
          subst (λ (x : IndexRecord). Asked (Some x) ↔ Rule x) (sym r.3) (f r.0 r.1 r.2) in
          (λ h. w.1 (g.0 h), λ h. g.1 (w.0 h))
      go None q = (
        λ h. where_absent s section tag Rule q,
        λ h. ⊎_elim (λ a. a) (λ r. absurd (tagged_absent s section tag q r.0 r.1 r.2)) none,
      )

  pub found_iff : (Asked : Option IndexRecord → Type 0) (Rule : IndexRecord → Type 0)
      → ((e : IndexRecord) → HasTag s section tag → Asked (Some e) ↔ Rule e)
      → Asked None ⊎ HasTag s section tag → Asked (tagged_in s section tag) ↔ WhereTagged s section tag Rule
  found_iff Asked Rule f none = record_iff Asked Rule (λ i l t. f (record_at s section i) (i, l, t)) none

  pub number_iff : (n : ℕ) → HasTag s section tag
      → (number_in s section (tagged_in s section) tag ≡ n) ↔ NumberIs s section tag n
  number_iff n h =
      found_iff (λ (t : Option IndexRecord). number_at s section t ≡ n)
      (λ (e : IndexRecord). be32_at s (in_file section e.offset) ≡ n) (λ e k. Iff.rfl) (inr h)

  -- a look-up by tag and type finds the record that has both
  pub typed_found : (ty i : ℕ) → i < section.nindex → (record_at s section i).tag ≡ tag → (record_at s section i).ty ≡ ty
      → find_in s section tag ty ≡ Some (entry_at s section i)
  typed_found ty i l t q =
      let n = section.nindex in
      let both = true_for tag ty (record_at s section i) t q in
      let f = record_found s section tag ty n 0 i (omega arith) (omega arith) both in
      let g = found_record s section tag ty n 0 f.0 f.1 in
      let w = for_true tag ty (record_at s section g.0) g.3 in
      let e = same_record s section tag apart g.0 i (omega arith) l (w.0 ∙ sym t) in
      f.1 ∙ ap Some (g.4 ∙ ap (entry_at s section) e)

  -- a rule for the count of a tag that is present
  pub count_rule : (Rule : ℕ → Type 0) → HasTag s section tag
      → Rule (count_in (tagged_in s section) tag) ↔ WhereTagged s section tag (λ (e : IndexRecord). Rule e.count)
  count_rule Rule h =
      found_iff (λ (t : Option IndexRecord). Rule (count_of t)) (λ (e : IndexRecord). Rule e.count) (λ e k. Iff.rfl) (inr h)

  pub count_iff : (n : ℕ) → HasTag s section tag → (count_in (tagged_in s section) tag ≡ n) ↔ HasCount s section tag n
  count_iff n = count_rule (λ (count : ℕ). count ≡ n)

  pub counted_iff : (n : ℕ) → (has (tagged_in s section) tag ≡ true → count_in (tagged_in s section) tag ≡ n) ↔ HasCount s section tag n
  counted_iff n =
      found_iff (λ (t : Option IndexRecord). is_present t ≡ true → count_of t ≡ n) (λ (e : IndexRecord). e.count ≡ n)
      (λ e k. (λ h. h refl, λ h q. h)) (inl (λ q. absurd (false≢true q)))

  pub below_count_iff : (n : ℕ) → HasTag s section tag
      → (n < count_in (tagged_in s section) tag) ↔ WhereTagged s section tag (λ (e : IndexRecord). n < e.count)
  below_count_iff n = count_rule (λ (count : ℕ). n < count)

  pub same_count_iff : (other : ℕ) → HasTag s section tag
      → HasCount s section other (count_in (tagged_in s section) tag) ↔ SameCount s section other tag
  same_count_iff other = count_rule (λ (count : ℕ). HasCount s section other count)
