-- Document 01, "Numbers the station shows": what the required version promises, in the words of look-ups and element
-- look-ups. Each is proved in proofs/ under its name in small letters: VersionExact as version_exact.
use Rattle.std.specs.Prelude.{ℕ, ◌<◌, ◌≡◌, ◌↔◌, ◌≢◌, List, [], ◌∷◌, ◌++◌, length, get_or}
use Rattle.entries.specs.Entries.{record_at}
use Rattle.package.specs.Package.{sound_check, header_at}
use Rattle.lookups.specs.Theorems.{RecordFor}
use Rattle.elements.specs.Elements.{find_element_bytes}
use Rattle.required.specs.Version.{required_version}
use Rattle.format.specs.Verdicts.{pass}

-- checks 2 to 13 and 28 pass, and the header's 1049 and 1050 are string arrays (type 8) of one count
pub record StringArrays (s : List ℕ) : Type 0 where
  pub sound : sound_check s ≡ pass
  pub names : ℕ
  pub versions : ℕ
  pub named : RecordFor s (header_at s) 1049 8 names
  pub versioned : RecordFor s (header_at s) 1050 8 versions
  pub counts : (record_at s (header_at s) names).count ≡ (record_at s (header_at s) versions).count

-- string k of 1049 is the lent name: the name's bytes and a zero byte
abbrev pub IsName : List ℕ → List ℕ → ℕ → Type 0
IsName s name k = find_element_bytes s 1 1049 8 k ≡ name ++ (0 ∷ [])

-- A version is shown exactly when the two are string arrays of one count and some string of 1049 is the name.
abbrev pub VersionExact : Type 0
VersionExact = (s name : List ℕ) → (required_version s name ≢ []) ↔ (StringArrays s × (k : ℕ) × IsName s name k)

-- Otherwise the part is empty.
abbrev pub VersionElse : Type 0
VersionElse = (s name : List ℕ) → (StringArrays s → (k : ℕ) → IsName s name k → ⊥) → required_version s name ≡ []

-- The version is the string of 1050 beside the first string of 1049 that is the name.
abbrev pub VersionBeside : Type 0
VersionBeside =
    (s name : List ℕ) (k : ℕ) → StringArrays s → IsName s name k → ((m : ℕ) → m < k → IsName s name m → ⊥)
    → required_version s name ≡ find_element_bytes s 1 1050 8 k

-- A name that holds a zero byte matches nothing.
abbrev pub VersionZero : Type 0
VersionZero =
    (s name : List ℕ) (i : ℕ) → i < length name → get_or name i 0 ≡ 0 → required_version s name ≡ []
