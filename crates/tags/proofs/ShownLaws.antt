-- A table that was empty and gathered shows, for each tag that has a slot, what the index shows: gathered_shows.
use Rattle.std.proofs.Common.{ℕ, zero, suc, ◌+◌, ◌≡◌, refl, ap, ◌∙◌, List, length, Bool, true, false, cond, eqb, arith}
use Rattle.std.proofs.Common.{get_or-set_same, get_or-set_other}
use Rattle.std.proofs.lemmas.List.{length-set, length-replicate, get_or-replicate}
use Rattle.std.specs.Prelude.{Option, Some, None, is_some}
use borrow.Author.Tests.{eqb-true, eqb-false}
use Rattle.format.specs.declared.section.Section.{Section}
use Rattle.format.specs.declared.records.IndexRecord.{IndexRecord}
use Rattle.entries.specs.Entries.{record_at}
use Rattle.index.specs.Lookup.{tagged_from, tagged_in}
use Rattle.tags.specs.declared.Found.{Found}
use Rattle.tags.specs.declared.Table.{Table}
use Rattle.tags.specs.Tables.{slots, slot_of, record_in, with_tag, slot_shows, shown_by, behind_tag, noted_in, noted}
use Rattle.tags.specs.Tables.{gathered_from, gathered, empty_table, with_slots}
use Rattle.tags.proofs.SlotLaws.{back, only}
use Rattle.tags.proofs.GatherLaws.{none, step}

-- what a table shows with one more record: that record for its own tag, and for another what it showed before
module _ (e : IndexRecord) (t : Table) where
  noted_length : length (noted e t).slots ≡ length t.slots
  unfolding noted
  noted_length = go (slot_of e.tag)
    where
      go : (a : Option ℕ) → length (noted_in e t a).slots ≡ length t.slots
      go (Some k) = length-set t.slots k (Some (behind_tag e))
      go None = refl

  noted_shows : (tag k : ℕ) → slot_of tag ≡ Some k → length t.slots ≡ slots
      → shown_by (noted e t) tag ≡ cond (eqb e.tag tag) (Some e) (shown_by t tag)
  unfolding shown_by noted
  noted_shows tag k h full = rw h (go (slot_of e.tag) refl (eqb e.tag tag) refl)
    where
      go : (a : Option ℕ) → slot_of e.tag ≡ a → (b : Bool) → eqb e.tag tag ≡ b
          → slot_shows (noted_in e t a) (Some k) tag ≡ cond b (Some e) (with_tag tag (record_in t.slots k))
      go (Some j) p true q =
          let own : e.tag ≡ tag = eqb-true e.tag tag q in
          let same : j ≡ k = cc (ap slot_of own) in
          let l = (back tag k h).1 in
          rw (same, get_or-set_same t.slots k (Some (behind_tag e)) None (omega arith), ← own)
      go None p true q = let z : ◌≡◌ {A = Option ℕ} None (Some k) = cc (ap slot_of (eqb-true e.tag tag q)) in cc
      go (Some j) p false q =
          ap (with_tag tag) (get_or-set_other t.slots j k (Some (behind_tag e)) None (λ (r : k ≡ j). eqb-false e.tag tag q (only e.tag tag k (rw r p) h)))
      go None p false q = refl

module _ (s : List ℕ) (section : Section) where
  gathered_length : (n i : ℕ) → length (gathered_from s section empty_table n i).slots ≡ slots
  gathered_length zero i = rw (none s section empty_table i) (length-replicate {A = Option Found} slots None)
  gathered_length (suc n) i =
      rw (step s section empty_table n i)
      (noted_length (record_at s section i) (gathered_from s section empty_table n (i + 1)) ∙ gathered_length n (i + 1))

  tagged_step : (n i tag : ℕ) → tagged_from s section (suc n) i tag
      ≡ cond (eqb (record_at s section i).tag tag) (Some (record_at s section i)) (tagged_from s section n (i + 1) tag)
  unfolding tagged_from
  tagged_step n i tag = refl

  tagged_none : (i tag : ℕ) → None ≡ tagged_from s section 0 i tag
  unfolding tagged_from
  tagged_none i tag = refl

  none_shown : (tag k : ℕ) → slot_of tag ≡ Some k → shown_by empty_table tag ≡ None
  unfolding shown_by
  none_shown tag k h = let l = (back tag k h).1 in rw (h, get_or-replicate {A = Option Found} slots k None None l)

  gathered_at : (tag k : ℕ) → slot_of tag ≡ Some k → (n i : ℕ)
      → shown_by (gathered_from s section empty_table n i) tag ≡ tagged_from s section n i tag
  gathered_at tag k h zero i = rw (none s section empty_table i) (none_shown tag k h ∙ tagged_none i tag)
  gathered_at tag k h (suc n) i =
      rw (step s section empty_table n i, tagged_step n i tag, ← gathered_at tag k h n (i + 1))
      (noted_shows (record_at s section i) (gathered_from s section empty_table n (i + 1)) tag k h (gathered_length n (i + 1)))

  shown_at : (tag : ℕ) → shown_by (gathered s section empty_table) tag ≡ with_slots (tagged_in s section) tag
  unfolding shown_by
  shown_at tag = go (slot_of tag) refl
    where
      go : (a : Option ℕ) → slot_of tag ≡ a → slot_shows (gathered s section empty_table) a tag ≡ cond (is_some a) (tagged_in s section tag) None
      go (Some k) h = rw h at (gathered_at tag k h section.nindex 0)
      go None h = refl

  pub gathered_shows : shown_by (gathered s section empty_table) ≡ with_slots (tagged_in s section)
  gathered_shows = λ i tag. shown_at tag i
