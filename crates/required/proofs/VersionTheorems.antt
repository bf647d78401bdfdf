-- The theorems of specs/Theorems: version_beside, version_exact, version_else, version_zero.
use Prim.Native.Nat.{ℕ, ◌<◌}
use mathlib.Core.Path.{◌≡◌, refl, sym, ap, ◌∙◌}
use mathlib.Core.Logic.{◌≢◌}
use mathlib.Core.List.{List, [], ◌∷◌, append_cancel_right}
use lib.ListN.{length}
use native.Mathlib.Omega.{arith}
use Rattle.entries.specs.Entries.{record_at}
use Rattle.index.specs.Lookup.{entry_at}
use Rattle.package.specs.Package.{header_at}
use Rattle.lookups.specs.Lookup.{sought_bytes}
use Rattle.elements.specs.Elements.{find_element_bytes}
use Rattle.elements.proofs.ElementTheorems.{element_exact, element_shows}
use Rattle.required.specs.declared.Requirement.{Requirement}
use Rattle.required.specs.Version.{requirement_for, version_of, sought_version, required_version}
use Rattle.required.specs.Theorems.{StringArrays, IsName, VersionExact, VersionElse, VersionBeside, VersionZero}
use Rattle.required.proofs.RequirementLaws.{shown, strings, name_below, required_first, required_some, required_of}
use Rattle.std.specs.Prelude.{Result, Ok, Err}
use Rattle.format.specs.declared.verdict.Refusal.{Refusal}

-- the version of a requirement is what an element look-up shows
beside : (s name : List ℕ) (a : StringArrays s) (k : ℕ) → k < (record_at s (header_at s) a.names).count
    → requirement_for s name ≡ Ok (record { header = (header_at s); versions = (entry_at s (header_at s) a.versions); number = k })
    → required_version s name ≡ find_element_bytes s 1 1050 8 k
unfolding sought_version
beside s name a k l h =
    let c = a.counts in
    ap (λ (r : Result Requirement Refusal). sought_bytes s (version_of s r)) h
    ∙ sym (ap (sought_bytes s) (shown s 1050 8 a.versions a.sound a.versioned k (omega arith)))

pub version_beside : VersionBeside
version_beside s name k a h f = beside s name a k (name_below s name a k h) (required_first s name a k h f)

pub version_exact : VersionExact
unfolding sought_version
version_exact s name = (go (requirement_for s name) refl, back)
  where
    go : (x : Result Requirement Refusal) → requirement_for s name ≡ x → sought_bytes s (version_of s x) ≢ []
        → StringArrays s × (k : ℕ) × IsName s name k
    go (Err refused) e n = absurd (n refl)
    go (Ok wanted) h n = let r = required_of s name h in (r.0, wanted.number, r.1)

    back : StringArrays s × (k : ℕ) × IsName s name k → required_version s name ≢ []
    back r z =
        let a = r.0 in
        let m = required_some s name a r.1 r.2 in
        let b = beside s name a m.0 m.1 m.2 in
        let c = a.counts in
        (element_exact s 1 1050 8 m.0).1 (a.sound, a.versions, a.versioned, omega arith) (sym b ∙ z)

pub version_else : VersionElse
version_else s name f = go (required_version s name) refl
  where
    go : (l : List ℕ) → required_version s name ≡ l → l ≡ []
    go [] e = refl
    go (x ∷ l) e =
        let r = (version_exact s name).0 (λ z. let y = ap length (sym e ∙ z) in omega arith) in
        absurd (f r.0 r.1 r.2)

pub version_zero : VersionZero
version_zero s name i l h =
    version_else s name (λ a k n.
    let b = name_below s name a k n in
    let t = ((element_shows s 1 1049 8 a.names k a.sound a.named b).strings (strings s 1049 a.names a.sound a.named)).1 in
    let e = append_cancel_right t.text name (0 ∷ []) (sym t.ended ∙ n) in
    t.nonzero i (rw e l) (rw e h))
