-- Look-ups: what they show is what is found in the structure (found_shown, header_shown), and sound.
use Prim.Native.Nat.{ℕ, ◌≤◌}
use mathlib.Core.Path.{◌≡◌, refl, sym, ◌∙◌}
use mathlib.Core.List.{List}
use mathlib.Core.Bool.{Bool, true, false, cond}
use lib.ListN.{length}
use lib.Dec.{eqb}
use mir.Syntax.{w32}
use mir.Val.{Fits}
use native.Mathlib.Omega.{arith}
use Rattle.format.specs.declared.section.Section.{Section}
use Rattle.format.specs.declared.section.Structure.TheVariants.{Signature, Header}
use Rattle.format.specs.Sizes.{package_limit}
use Rattle.index.specs.declared.Entry.{Entry}
use Rattle.index.specs.Lookup.{find_in, found_bytes}
use Rattle.structure.specs.Sound.{SoundEntry}
use Rattle.structure.proofs.SoundLaws.{found_sound, sound_longer}
use Rattle.package.specs.Package.{signature_at, header_at, structure_of, sound_check}
use Rattle.lookups.specs.Lookup.{sought_as, sought, sought_bytes, find_bytes}
use Rattle.package.proofs.OpenLaws.{sound_size, sound_signature, sound_header}
use Rattle.std.specs.Prelude.{Option, Some, None, Result, Ok, Err}
use Rattle.format.specs.Verdicts.{Verdict, pass}
use Rattle.format.specs.declared.verdict.Refusal.{Refusal}

as_bytes : (s : List ℕ) (f : Option Entry) → found_bytes s f ≡ sought_bytes s (sought_as pass f)
as_bytes s (Some entry) = refl
as_bytes s None = refl

-- where checks 2 to 13 and 28 pass, a look-up shows what is found in the structure
pub found_shown : (s : List ℕ) (which tag ty : ℕ) → sound_check s ≡ pass
    → found_bytes s (find_in s (structure_of s which) tag ty) ≡ find_bytes s which tag ty
unfolding sought
found_shown s which tag ty h = rw h (as_bytes s (find_in s (structure_of s which) tag ty))

pub header_shown : (s : List ℕ) (tag ty : ℕ) → sound_check s ≡ pass
    → found_bytes s (find_in s (header_at s) tag ty) ≡ find_bytes s 1 tag ty
header_shown s tag ty h = found_shown s 1 tag ty h

-- an entry that was found is sound
found_in : (s : List ℕ) (section : Section) (tag ty : ℕ) (entry : Entry) (b : Bool) → sound_check s ≡ pass
    → section ≡ cond b (signature_at s) (header_at s) → find_in s section tag ty ≡ Some entry → SoundEntry s (length s) entry
found_in s section tag ty entry true h e f = found_sound Signature s (length s) _ tag ty entry (sound_signature s h) (rw e at f)
found_in s section tag ty entry false h e f = found_sound Header s (length s) _ tag ty entry (sound_header s h) (rw e at f)

pub header_found : (s : List ℕ) (tag ty : ℕ) (entry : Entry) → sound_check s ≡ pass → find_in s (header_at s) tag ty ≡ Some entry
    → SoundEntry s package_limit entry
header_found s tag ty entry h f =
    sound_longer s (length s) package_limit entry (found_in s (header_at s) tag ty entry false h refl f) (sound_size s h)

as_here : (v : Verdict) (found : Option Entry) (entry : Entry) → sought_as v found ≡ Ok entry → (v ≡ pass) × (found ≡ Some entry)
as_here (Ok _) (Some x) entry h = (refl, cc)
as_here (Ok _) None entry h = let z : ◌≡◌ {A = ℕ} 0 1 = cc in absurd (omega arith)
as_here (Err e) found entry h = let z : ◌≡◌ {A = ℕ} 0 1 = cc in absurd (omega arith)

pub sought_sound : (s : List ℕ) (which tag ty : ℕ) (entry : Entry) → sought s which tag ty ≡ Ok entry
    → (SoundEntry s (length s) entry) × (length s ≤ package_limit)
unfolding sought
sought_sound s which tag ty entry h =
    let k = as_here (sound_check s) (find_in s (structure_of s which) tag ty) entry h in
    (found_in s (structure_of s which) tag ty entry (eqb which 0) k.0 refl k.1, sound_size s k.0)

-- it starts at a 32-bit place
pub sought_fits : (s : List ℕ) (which tag ty : ℕ) {found : Result Entry Refusal} {entry : Entry} {place : ℕ} → found ≡ sought s which tag ty
    → found ≡ Ok entry → place ≡ entry.at.0 → Fits w32 place
sought_fits s which tag ty {entry = entry} p h e =
    let k = sought_sound s which tag ty entry (sym p ∙ h) in
    let b = k.0.inside in
    record { fits = omega arith }
