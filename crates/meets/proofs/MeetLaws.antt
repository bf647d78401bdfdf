-- That the entries which a requirement is read from lie in the package: the flags (flags_sound), and what was found for the name
-- (sound_here, header_here, versions_here).
use Prim.Native.Nat.{ℕ}
use mathlib.Core.Path.{◌≡◌, sym, ◌∙◌}
use mathlib.Core.List.{List}
use Rattle.format.specs.declared.section.Section.{Section}
use Rattle.format.specs.Sizes.{package_limit}
use Rattle.index.specs.declared.Entry.{Entry}
use Rattle.index.specs.Lookup.{find_in}
use Rattle.structure.specs.Sound.{SoundEntry}
use Rattle.package.specs.Package.{sound_check, header_at}
use Rattle.lookups.proofs.SeekLaws.{header_found}
use Rattle.required.specs.declared.Requirement.{Requirement}
use Rattle.required.specs.Version.{requirement_for}
use Rattle.required.proofs.MatchLaws.{arrays_of}
use Rattle.required.proofs.VersionLaws.{versions_sound}
use Rattle.meets.specs.Meets.{require_flags, int32}
use Rattle.std.specs.Prelude.{Option, Some, Result, Ok}
use Rattle.format.specs.Verdicts.{pass}
use Rattle.format.specs.declared.verdict.Refusal.{Refusal}

-- among a header's entries
module _ (s given : List ℕ) (header : Section) (versions : Entry) (k : ℕ)
    {f : Option Entry} (p : f ≡ find_in s header require_flags int32) where
  module _ {flags : Entry} (h : f ≡ Some flags) where
    pub flags_sound : sound_check s ≡ pass → header ≡ header_at s → SoundEntry s package_limit flags
    flags_sound c e = header_found s require_flags int32 flags c (rw e at (sym p ∙ h))

-- by what was found for the name
module _ (s name given : List ℕ) {r : Result Requirement Refusal} (p : r ≡ requirement_for s name) where
  module _ {wanted : Requirement} (h : r ≡ Ok wanted) where
    pub sound_here : sound_check s ≡ pass
    sound_here = (arrays_of s name (sym p ∙ h)).sound

    pub header_here : wanted.header ≡ header_at s
    header_here = sym (arrays_of s name (sym p ∙ h)).here

    pub versions_here : SoundEntry s package_limit wanted.versions
    versions_here = versions_sound s name p h
