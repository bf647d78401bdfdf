-- What 32 leaves of an entry (EntryRight), a list (ListRight) and a lent list's form (FormRight): each run of tests passes
-- exactly when its facts hold.
use Prim.Native.Nat.{ℕ, ◌/◌, ◌%◌, ◌≤◌}
use mathlib.Core.Path.{◌≡◌, refl, sym, ap, ◌∙◌}
use mathlib.Core.Logic.{◌↔◌}
use mathlib.Core.List.{List, [], ◌∷◌}
use mathlib.Core.Bool.{true, false, not}
use lib.ListN.{length}
use borrow.Author.Tests.{eqb-true, eq-eqb, leb-true, le-leb, not-true}
use Rattle.format.specs.Sizes.{nindex_limit}
use Rattle.format.specs.declared.section.Structure.{Structure}
use Rattle.format.specs.declared.section.Structure.TheVariants.{Signature}
use Rattle.format.proofs.VerdictLaws.{passed, inverted, both_pass, both_inverted}
use Rattle.entries.specs.Entries.{type_lawful, count_right}
use Rattle.put.specs.Puts.{zeros}
use Rattle.lists.specs.Lists.{ListEntry, sizes_from}
use Rattle.reasons.specs.Reasons.{record_of, data_exact, tag_in, entry_reasons, entries_reasons, list_reasons, with_own}
use Rattle.reasons.specs.Reasons.{form_reasons}
use Rattle.reasons.proofs.ReasonLaws.{own_passes}
use Rattle.format.specs.Verdicts.{pass}

-- an entry of a structure behind others, of which the tags are given
pub record EntryRight (structure : Structure) (seen : List ℕ) (entry : ListEntry) : Type 0 where
  pub typed : type_lawful (record_of entry 0) ≡ true
  pub counted : count_right structure (record_of entry 0) ≡ true
  pub exact : data_exact entry.ty entry.count entry.bytes ≡ true
  pub fresh : tag_in entry.tag seen ≡ false

pub entry_right : (structure : Structure) (seen : List ℕ) (entry : ListEntry)
    → (entry_reasons structure seen entry ≡ pass) ↔ EntryRight structure seen entry
unfolding entry_reasons
entry_right structure seen entry = (
  λ h.
      let a = inverted _ _ _ _ h in
      let b = inverted _ _ _ _ a.1 in
      let c = inverted _ _ _ _ b.1 in
      let d = inverted _ _ _ _ c.1 in
      record { typed = a.0; counted = b.0; exact = c.0; fresh = not-true _ d.0 },
  λ r. sym (passed _ _ r.typed (passed _ _ r.counted (passed _ _ r.exact (passed _ _ (ap not r.fresh) refl)))),
)

-- some entries: the first, and those behind it
pub entries_right : (structure : Structure) (seen : List ℕ) (entry : ListEntry) (rest : List ListEntry)
    → (entries_reasons structure seen (entry ∷ rest) ≡ pass)
    ↔ (EntryRight structure seen entry × (entries_reasons structure (entry.tag ∷ seen) rest ≡ pass))
unfolding entries_reasons
entries_right structure seen entry rest = (
  λ h. let k = both_inverted _ _ h in ((entry_right structure seen entry).0 k.0, k.1),
  λ h. both_pass ((entry_right structure seen entry).1 h.0) ∙ h.1,
)

pub record ListRight (structure : Structure) (entries : List ListEntry) : Type 0 where
  pub some : 1 ≤ length entries
  pub within : length entries ≤ nindex_limit
  pub each : entries_reasons structure [] entries ≡ pass

pub list_right : (structure : Structure) (entries : List ListEntry)
    → (list_reasons structure entries ≡ pass) ↔ ListRight structure entries
unfolding list_reasons
list_right structure entries = (
  λ h.
      let a = inverted _ _ _ _ h in
      let b = inverted _ _ _ _ a.1 in
      record { some = leb-true _ _ a.0; within = leb-true _ _ b.0; each = b.1 },
  λ r. sym (passed _ _ (le-leb _ _ r.some) (passed _ _ (le-leb _ _ r.within) (sym r.each))),
)

-- the writer's own entries pass whatever the number and the 16 bytes are
pub own_right : (size : ℕ) (digest : List ℕ) (entries : List ListEntry) → length digest ≡ 16
    → ListRight Signature (with_own 0 (zeros 16) entries) → ListRight Signature (with_own size digest entries)
own_right size digest entries h r =
    record {
      some = r.some;
      within = r.within;
      each = own_passes size digest entries h ∙ sym (own_passes 0 (zeros 16) entries refl) ∙ r.each;
    }

-- a lent list
pub record FormRight (list row : List ℕ) : Type 0 where
  pub whole : length list % 16 ≡ 0
  pub meet : sizes_from list (length list / 16) 0 ≡ length row

pub form_right : (list row : List ℕ) → (form_reasons list row ≡ pass) ↔ FormRight list row
unfolding form_reasons
form_right list row = (
  λ h.
      let a = inverted _ _ _ _ h in
      let b = inverted _ _ _ _ a.1 in
      record { whole = eqb-true _ _ a.0; meet = eqb-true _ _ b.0 },
  λ r. sym (passed _ _ (eq-eqb _ _ r.whole) (passed _ _ (eq-eqb _ _ r.meet) refl)),
)
