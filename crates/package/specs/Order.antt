-- Request 5: refusal 28 comes "after the signature's check 13 and before the header's check 5. A package that ends inside the gap has
-- its present gap bytes tested first, then gets 5." What that comes to. Each is proved in proofs/ under its name in small letters.
use Rattle.std.specs.Prelude.{ℕ, ◌+◌, ◌<◌, ◌≡◌, ◌↔◌, List, length, get_or, Err}
use Rattle.format.specs.declared.section.Structure.TheVariants.{Signature}
use Rattle.format.specs.Sizes.{lead_size, header_record_size}
use Rattle.format.specs.Places.{section_end}
use Rattle.format.specs.Lead.{lead_of}
use Rattle.structure.specs.Structure.{structure_check}
use Rattle.gap.specs.Order.{InGap, FirstStray}
use Rattle.package.specs.Lead.{lead_check}
use Rattle.package.specs.Package.{size_check, signature_at, header_start, sound_check}
use Rattle.format.specs.Verdicts.{pass, refusal}

-- a package that passes 2 to 4, and 5 to 13 for the signature
pub record SignaturePasses (s : List ℕ) : Type 0 where
  pub size : size_check (length s) ≡ pass
  pub lead : lead_check (lead_of s) ≡ pass
  pub signature : structure_check Signature s (length s) lead_size ≡ pass

-- the place of its first gap byte that isn't zero; all its gap bytes are zero
abbrev pub StrayAt : List ℕ → ℕ → Type 0
StrayAt s place = FirstStray s (length s) (section_end (signature_at s)) (header_start (signature_at s)) place

abbrev pub ZeroGap : List ℕ → Type 0
ZeroGap s = (i : ℕ) → InGap (length s) (section_end (signature_at s)) (header_start (signature_at s)) i → get_or s i 0 ≡ 0

-- 28 at a place is the answer exactly where those pass and it is that of such a byte, whatever stands behind the gap
abbrev pub GapRefused : Type 0
GapRefused = (s : List ℕ) (place : ℕ) → (sound_check s ≡ Err (refusal 28 place)) ↔ (SignaturePasses s × StrayAt s place)

-- without such a byte, a package that has no room for a header record at H gets 5
abbrev pub GapCut : Type 0
GapCut =
    (s : List ℕ) → SignaturePasses s → ZeroGap s → length s < header_start (signature_at s) + header_record_size
    → sound_check s ≡ Err (refusal 5 (header_start (signature_at s)))
