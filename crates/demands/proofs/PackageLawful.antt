-- Checks 2 to 13 and 28 of a package are what the rules say of its size, lead and structures: parts_lawful, sound_exactly.
use Prim.Native.Nat.{ℕ, ◌≤◌}
use mathlib.Core.Path.{◌≡◌, refl, sym, subst, ◌∙◌}
use mathlib.Core.Logic.{◌↔◌}
use mathlib.Core.List.{List}
use lib.ListN.{length}
use native.Mathlib.Omega.{arith}
use borrow.Author.Tests.{leb-true, le-leb}
use Rattle.format.specs.declared.section.Structure.TheVariants.{Signature, Header}
use Rattle.format.specs.Sizes.{package_limit, lead_size}
use Rattle.format.specs.Places.{section_end, align_up}
use Rattle.format.proofs.VerdictLaws.{passed, inverted, both_pass, both_inverted}
use Rattle.gap.specs.Gap.{gap_check}
use Rattle.gap.proofs.OrderLaws.{gap_pass}
use Rattle.package.specs.Package.{size_check, signature_at, header_start, structures_check, package_check, sound_check}
use Rattle.demands.specs.Lawful.{LawfulLead, LawfulStructure, FirstMultiple, ZeroBetween, SoundPackage}
use Rattle.demands.specs.Demands.{SoundExactly}
use Rattle.demands.proofs.LeadLawful.{lead_lawful}
use Rattle.demands.proofs.StructureLawful.{structure_lawful}
use Rattle.format.specs.Verdicts.{pass}

-- H is where the header starts
pub start_first : (place : ℕ) → FirstMultiple 8 place (align_up 8 place)
start_first place = record { multiple = omega arith; after = omega arith; first = λ other h l. omega arith }

start_only : (place start : ℕ) → FirstMultiple 8 place start → start ≡ align_up 8 place
start_only place start f =
    let a = f.multiple in
    let b = f.after in
    let c = f.first (align_up 8 place) (omega arith) (omega arith) in
    omega arith

-- 2 and 3
size_lawful : (len : ℕ) → (size_check len ≡ pass) ↔ ((len ≤ package_limit) × (lead_size ≤ len))
unfolding size_check
size_lawful len = (
  λ h. let k = inverted _ _ _ _ h in (leb-true _ _ k.0, leb-true _ _ (inverted _ _ _ _ k.1).0),
  λ h. sym (passed _ _ (le-leb _ _ h.0) (passed _ _ (le-leb _ _ h.1) refl)),
)

-- 28, where there is a header at H
gap_lawful : (s : List ℕ) (end start : ℕ) → start ≤ length s
    → (gap_check s (length s) end start ≡ pass) ↔ ZeroBetween s end start
gap_lawful s end start l = (
  λ h i a b. (gap_pass s (length s) end start).0 h i (record { after = a; before = b; there = omega arith }),
  λ h. (gap_pass s (length s) end start).1 (λ i g. h i g.after g.before),
)

module _ (s : List ℕ) where
  -- size, lead and structures, with the header at a place
  abbrev pub Parts : ℕ → Type 0
  Parts start =
      (length s ≤ package_limit) × (lead_size ≤ length s) × LawfulLead s × LawfulStructure Signature s lead_size
      × ZeroBetween s (section_end (signature_at s)) start × LawfulStructure Header s start

  abbrev H : ℕ
  H = header_start (signature_at s)

  pub parts_lawful : (sound_check s ≡ pass) ↔ Parts H
  unfolding package_check structures_check
  parts_lawful = (
    λ h.
        let k = both_inverted _ _ h in
        let j = both_inverted _ _ k.1 in
        let i = both_inverted _ _ j.1 in
        let g = both_inverted _ _ i.1 in
        let size = (size_lawful (length s)).0 k.0 in
        let header = (structure_lawful Header s H).0 g.1 in
        let room = header.header.room in (
          size.0,
          size.1,
          (lead_lawful s).0 j.0,
          (structure_lawful Signature s lead_size).0 i.0,
          (gap_lawful s (section_end (signature_at s)) H (omega arith)).0 g.0,
          header,
        ),
    λ h.
        let room = h.5.header.room in
        both_pass ((size_lawful (length s)).1 (h.0, h.1))
        ∙ both_pass ((lead_lawful s).1 h.2)
        ∙ both_pass ((structure_lawful Signature s lead_size).1 h.3)
        ∙ both_pass ((gap_lawful s (section_end (signature_at s)) H (omega arith)).1 h.4)
        ∙ (structure_lawful Header s H).1 h.5,
  )

  unfoldable pub parts_sound : Parts H → SoundPackage s
  parts_sound h =
      record {
        most = h.0;
        least = h.1;
        lead = h.2;
        signature = h.3;
        H = H;
        place = start_first (section_end (signature_at s));
        gap = h.4;
        header = h.5;
      }

  -- H is that place
  pub start_is : (r : SoundPackage s) → r.H ≡ H
  start_is r = start_only (section_end (signature_at s)) r.H r.place

  pub sound_parts : (r : SoundPackage s) → Parts r.H
  sound_parts r = (r.most, r.least, r.lead, r.signature, r.gap, r.header)

pub sound_exactly : SoundExactly
sound_exactly s = (
  λ h. parts_sound s ((parts_lawful s).0 h),
  λ r. (parts_lawful s).1 (subst (Parts s) (start_is s r) (sound_parts s r)),
)
