-- What refusals 32 to 34 leave of a name (LawfulName) and a writing (Accepted): each run of tests passes exactly when its
-- facts hold.
use Prim.Native.Nat.{ℕ, ◌+◌, ◌≤◌, ◌<◌}
use mathlib.Core.Path.{◌≡◌, refl, sym, ap, ◌∙◌}
use mathlib.Core.Logic.{◌↔◌, ◌≢◌}
use mathlib.Core.List.{List}
use mathlib.Core.Bool.{Bool, true, false, not}
use lib.ListN.{length, get_or}
use native.Mathlib.Omega.{arith}
use borrow.Author.Tests.{leb-true, le-leb, not-true}
use Rattle.strings.proofs.RowLaws.{single_among}
use Rattle.format.specs.Sizes.{package_limit}
use Rattle.format.specs.declared.section.Structure.TheVariants.{Signature, Header}
use Rattle.format.specs.Verdicts.{pass}
use Rattle.format.proofs.VerdictLaws.{passed, inverted, both_pass, both_inverted}
use Rattle.put.specs.Puts.{zeros}
use Rattle.lists.specs.Lists.{ListEntry, entries_of}
use Rattle.reasons.specs.Reasons.{with_own, has_zero, name_reasons, reasons}
use Rattle.reasons.proofs.RightLaws.{ListRight, list_right, FormRight, form_right}
use Rattle.layout.specs.Layout.{written}
use Rattle.plan.specs.Refusals.{room_check, written_of, write_check}
use Rattle.roundtrip.specs.Lawful.{LawfulName, Wide}

-- a name has no zero byte
zeroless : (name : List ℕ) → (has_zero name ≡ false) ↔ ((i : ℕ) → i < length name → get_or name i 0 ≢ 0)
zeroless name = go (has_zero name) (single_among name (length name) 0)
  where
    go : (b : Bool) → (b ≡ true) ↔ ((i : ℕ) × (0 ≤ i) × (i < 0 + length name) × (get_or name i 0 ≡ 0))
        → (b ≡ false) ↔ ((i : ℕ) → i < length name → get_or name i 0 ≢ 0)
    go true f = (
      λ h. absurd cc,
      λ h. let r = f.0 refl in absurd (h r.0 (omega arith) r.3),
    )
    go false f = (
      λ h i l q. let z = f.1 (i, omega arith, omega arith, q) in cc,
      λ h. refl,
    )

pub name_right : (name : List ℕ) → (name_reasons name ≡ pass) ↔ LawfulName name
unfolding name_reasons
name_right name = (
  λ h.
      let a = inverted _ _ _ _ h in
      let b = inverted _ _ _ _ a.1 in
      let c = inverted _ _ _ _ b.1 in
      record {
        some = leb-true _ _ a.0;
        within = leb-true _ _ b.0;
        nonzero = (zeroless name).0 (not-true _ c.0);
      },
  λ r.
      sym (passed _ _ (le-leb _ _ r.some)
      (passed _ _ (le-leb _ _ r.within)
      (passed _ _ (ap not ((zeroless name).1 r.nonzero)) refl))),
)

-- a name and two lists of entries that may be written
pub record Writable (name : List ℕ) (signature header : List ListEntry) : Type 0 where
  pub named : LawfulName name
  pub signed : ListRight Signature (with_own 0 (zeros 16) signature)
  pub headed : ListRight Header header
  pub wide_signed : Wide signature
  pub wide_headed : Wide header
  pub limit : length (written name signature header) ≤ package_limit

-- a writing that is accepted
pub record Accepted (name signature signatureRow header headerRow : List ℕ) (room : ℕ) : Type 0 where
  pub signed_form : FormRight signature signatureRow
  pub headed_form : FormRight header headerRow
  pub named : LawfulName name
  pub signed : ListRight Signature (with_own 0 (zeros 16) (entries_of signature signatureRow))
  pub headed : ListRight Header (entries_of header headerRow)
  pub limit : length (written_of name signature signatureRow header headerRow) ≤ package_limit
  pub fits : length (written_of name signature signatureRow header headerRow) ≤ room

module _ (name signature signatureRow header headerRow : List ℕ) (room : ℕ) where
  pub accepted : (write_check name signature signatureRow header headerRow room ≡ pass)
      ↔ Accepted name signature signatureRow header headerRow room
  unfolding write_check reasons room_check
  accepted = (
    λ h.
        let a = both_inverted _ _ h in
        let b = both_inverted _ _ a.0 in
        let c = both_inverted _ _ b.1 in
        let d = both_inverted _ _ c.1 in
        let e = both_inverted _ _ d.1 in
        let f = inverted _ _ _ _ a.1 in
        let g = inverted _ _ _ _ f.1 in
        record {
          signed_form = (form_right signature signatureRow).0 b.0;
          headed_form = (form_right header headerRow).0 c.0;
          named = (name_right name).0 d.0;
          signed = (list_right _ _).0 e.0;
          headed = (list_right _ _).0 e.1;
          limit = leb-true _ _ f.0;
          fits = leb-true _ _ g.0;
        },
    λ r.
        both_pass
        (both_pass ((form_right signature signatureRow).1 r.signed_form)
        ∙ both_pass ((form_right header headerRow).1 r.headed_form)
        ∙ both_pass ((name_right name).1 r.named)
        ∙ both_pass ((list_right _ _).1 r.signed)
        ∙ (list_right _ _).1 r.headed)
        ∙ sym (passed _ _ (le-leb _ _ r.limit) (passed _ _ (le-leb _ _ r.fits) refl)),
  )
