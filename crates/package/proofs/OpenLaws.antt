-- What a package that passed checks 2 to 13 and 28 is.
use Prim.Native.Nat.{ℕ, ◌≤◌}
use mathlib.Core.Path.{◌≡◌, refl, sym, ap, ◌∙◌}
use mathlib.Core.List.{List}
use lib.ListN.{length}
use native.Mathlib.Omega.{arith}
use borrow.Author.Tests.{leb-true}
use Rattle.format.specs.declared.section.Section.{Section}
use Rattle.format.specs.declared.section.Structure.TheVariants.{Signature, Header}
use Rattle.format.specs.Sizes.{lead_size, package_limit}
use Rattle.format.specs.Places.{section_end}
use Rattle.format.specs.Verdicts.{Verdict, pass}
use Rattle.format.proofs.VerdictLaws.{inverted, both_inverted}
use Rattle.structure.specs.Structure.{structure_check}
use Rattle.structure.specs.Checked.{structure_checked}
use Rattle.structure.proofs.PassLaws.{structure_header, checked_sound}
use Rattle.package.specs.declared.Opened.{Opened}
use Rattle.package.specs.Package.{size_check, header_start, signature_at, header_at, structures_check}
use Rattle.package.specs.Package.{package_check, sound_check, opened_as, opened}
use Rattle.std.specs.Prelude.{Result, Ok, Err}
use Rattle.format.specs.declared.verdict.Refusal.{Refusal}

-- the signature that passed its checks ends within the package
pub signature_small : (s : List ℕ) (len : ℕ) {a : Result Section Refusal} {signature : Section}
    → a ≡ structure_checked Signature s len lead_size → a ≡ Ok signature → len ≤ package_limit → section_end signature ≤ package_limit
signature_small s len r h l =
    let k = checked_sound _ _ (sym r ∙ h) in
    let b = (structure_header Signature s len lead_size k.0).fits in
    rw (← k.1) (omega arith)

-- what passing checks 2 to 13 and 28 says
module _ (s : List ℕ) (h : sound_check s ≡ pass) where
  blocks : (size_check (length s) ≡ pass) × (structure_check Signature s (length s) lead_size ≡ pass)
      × (structure_check Header s (length s) (header_start (signature_at s)) ≡ pass)
  unfolding package_check structures_check
  blocks =
      let k = both_inverted _ _ h in
      let j = both_inverted _ _ (both_inverted _ _ k.1).1 in
      (k.0, j.0, (both_inverted _ _ j.1).1)

  pub sound_size : length s ≤ package_limit
  unfolding size_check
  sound_size = leb-true _ _ (inverted _ _ _ _ blocks.0).0

  pub sound_signature : structure_check Signature s (length s) lead_size ≡ pass
  sound_signature = blocks.1

  pub sound_header : structure_check Header s (length s) (header_start (signature_at s)) ≡ pass
  sound_header = blocks.2

-- what an opened package says of the verdict
pub opened_sound : (s : List ℕ) {both : Opened} → opened s ≡ Ok both
    → (sound_check s ≡ pass) × (signature_at s ≡ both.signature) × (header_at s ≡ both.header)
unfolding opened
opened_sound s {both} h = go (sound_check s) refl h
  where
    go : (v : Verdict) → sound_check s ≡ v → opened_as v (signature_at s) (header_at s) ≡ Ok both
        → (sound_check s ≡ pass) × (signature_at s ≡ both.signature) × (header_at s ≡ both.header)
    go (Ok _) e k =
        let q : record { signature = signature_at s; header = header_at s } ≡ both = cc in
        (e, ap (λ (o : Opened). o.signature) q, ap (λ (o : Opened). o.header) q)
    go (Err refused) e k = let z : ◌≡◌ {A = ℕ} 0 1 = cc in absurd (omega arith)

pub opened_unsound : (s : List ℕ) {refused : Refusal} → opened s ≡ Err refused → sound_check s ≡ Err refused
unfolding opened
opened_unsound s {refused} h = go (sound_check s) refl h
  where
    go : (v : Verdict) → sound_check s ≡ v → opened_as v (signature_at s) (header_at s) ≡ Err refused → sound_check s ≡ Err refused
    go (Ok _) e k = let z : ◌≡◌ {A = ℕ} 0 1 = cc in absurd (omega arith)
    go (Err e') e k = e ∙ cc
