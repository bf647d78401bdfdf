-- Check 26: an element is found where its entry is and its number is below the count, and is sound: element_found,
-- element_of_lem, found_element.
use Prim.Native.Nat.{ℕ, ◌≤◌, ◌<◌}
use mathlib.Core.Path.{◌≡◌, refl, sym}
use mathlib.Core.List.{List}
use mathlib.Core.Bool.{Bool, true, false, cond}
use lib.Dec.{ltb}
use lib.ListN.{length}
use native.Mathlib.Omega.{arith}
use borrow.Author.Tests.{lt-ltb, ltb-true}
use Rattle.format.specs.Places.{section_end}
use Rattle.index.specs.declared.Entry.{Entry}
use Rattle.structure.specs.Sound.{SoundEntry}
use Rattle.package.specs.Package.{structure_of}
use Rattle.lookups.specs.Lookup.{sought}
use Rattle.elements.specs.Elements.{element_of, element_as, sought_element}
use Rattle.lookups.proofs.FoundLaws.{structure_fits_lem, record_of_found, found_sound}
use Rattle.elements.proofs.ElementSound.{element_sound}
use Rattle.std.specs.Prelude.{Result, Ok, Err}
use Rattle.format.specs.Verdicts.{refusal}
use Rattle.format.specs.declared.verdict.Refusal.{Refusal}

below_count : (s : List ℕ) (k : ℕ) (entry element : Entry) (b : Bool) → ltb k entry.count ≡ b
    → cond b (Ok (element_of s entry k)) (Err (refusal 26 0)) ≡ Ok element
    → (k < entry.count) × (element ≡ element_of s entry k)
below_count s k entry element true e q = let w : element_of s entry k ≡ element = cc in (ltb-true _ _ e, sym w)
below_count s k entry element false e q = let z : ◌≡◌ {A = ℕ} 0 1 = cc in absurd (omega arith)

module _ (s : List ℕ) (which tag ty k : ℕ) where
  pub element_found : (entry : Entry) → sought s which tag ty ≡ Ok entry → k < entry.count
      → sought_element s which tag ty k ≡ Ok (element_of s entry k)
  unfolding sought_element
  element_found entry h l = rw (h, lt-ltb k entry.count l)

  pub element_of_lem : (element : Entry) → sought_element s which tag ty k ≡ Ok element
      → (entry : Entry) × (sought s which tag ty ≡ Ok entry) × (k < entry.count) × (element ≡ element_of s entry k)
  unfolding sought_element
  element_of_lem element h = go (sought s which tag ty) refl h
    where
      go : (x : Result Entry Refusal) → sought s which tag ty ≡ x → element_as s k x ≡ Ok element
          → (entry : Entry) × (sought s which tag ty ≡ Ok entry) × (k < entry.count)
          × (element ≡ element_of s entry k)
      go (Ok entry) e q = let r = below_count s k entry element _ refl q in (entry, e, r.0, r.1)
      go (Err refused) e q = let z : ◌≡◌ {A = ℕ} 0 1 = cc in absurd (omega arith)

  pub found_element : (element : Entry) → sought_element s which tag ty k ≡ Ok element
      → (section_end (structure_of s which) ≤ length s) × SoundEntry s (section_end (structure_of s which)) element
  found_element element h =
      let r = element_of_lem element h in (
        structure_fits_lem s (record_of_found s which tag ty r.0 r.1).0 which,
        rw r.3 (element_sound s _ r.0 (found_sound s which tag ty r.0 r.1) k r.2),
      )
