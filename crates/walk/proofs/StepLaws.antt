-- The structure that a step of the index walk goes by lies in the package.
use Prim.Native.Nat.{ℕ, ◌≤◌}
use mathlib.Core.Path.{◌≡◌, sym, ◌∙◌}
use mathlib.Core.List.{List}
use mathlib.Core.Bool.{Bool, true, false, cond}
use lib.Dec.{eqb}
use lib.ListN.{length}
use native.Mathlib.Omega.{arith}
use Rattle.format.specs.declared.section.Section.{Section}
use Rattle.format.specs.Sizes.{lead_size, package_limit}
use Rattle.format.specs.Places.{section_end}
use Rattle.structure.proofs.PassLaws.{structure_header}
use Rattle.package.specs.declared.Opened.{Opened}
use Rattle.package.specs.Package.{header_start, signature_at, header_at, section_for, structure_of, sound_check, opened}
use Rattle.package.proofs.OpenLaws.{opened_sound, sound_size, sound_signature, sound_header}
use Rattle.std.specs.Prelude.{Result, Ok}
use Rattle.format.specs.Verdicts.{pass}
use Rattle.format.specs.declared.verdict.Refusal.{Refusal}

structure_small : (s : List ℕ) → sound_check s ≡ pass → (b : Bool)
    → section_end (cond b (signature_at s) (header_at s)) ≤ package_limit
structure_small s h true =
    let b = (structure_header _ s (length s) lead_size (sound_signature s h)).fits in
    let l = sound_size s h in
    omega arith
structure_small s h false =
    let b = (structure_header _ s (length s) (header_start (signature_at s)) (sound_header s h)).fits in
    let l = sound_size s h in
    omega arith

-- a structure of an opened package ends within the limit
pub bounded : (s : List ℕ) (which : ℕ) {r : Result Opened Refusal} → r ≡ opened s → {both : Opened} → r ≡ Ok both
    → {section : Section} → section ≡ section_for which both.signature both.header → section_end section ≤ package_limit
bounded s which p {both} h g =
    let k = opened_sound s (sym p ∙ h) in
    let e : section_for which both.signature both.header ≡ structure_of s which = rw (k.1, k.2) in
    rw (g ∙ e) (structure_small s k.0 (eqb which 0))
