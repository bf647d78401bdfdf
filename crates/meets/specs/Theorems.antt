-- Document 02, request 6, on required names, in the words of look-ups and element look-ups. Each is proved in proofs/ under its
-- name in small letters: MeetsSays as meets_says.
use Rattle.std.specs.Prelude.{ℕ, ◌/◌, ◌%◌, ◌<◌, ◌≡◌, ◌↔◌, ◌⊎◌, List, [], ◌∷◌, ◌++◌, Ok, Err}
use Rattle.be.specs.Numbers.{be32_at}
use Rattle.entries.specs.Entries.{record_at}
use Rattle.package.specs.Package.{sound_check, header_at}
use Rattle.lookups.specs.Theorems.{RecordFor}
use Rattle.elements.specs.Elements.{find_element_bytes}
use Rattle.required.specs.Theorems.{StringArrays, IsName}
use Rattle.std.specs.declared.cmp.Ordering.TheVariants as order
use Rattle.version.specs.Version.{by_text}
use Rattle.meets.specs.Meets.{meets_answer}
use Rattle.format.specs.Verdicts.{pass, refusal}

-- checks 2 to 13 and 28 pass, 1049 and 1050 are string arrays of one count, and 1048 is int32 of 1049's count
pub record Flagged (s : List ℕ) : Type 0 where
  pub arrays : StringArrays s
  pub flags : ℕ
  pub typed : RecordFor s (header_at s) 1048 4 flags
  pub counts : (record_at s (header_at s) flags).count ≡ (record_at s (header_at s) arrays.names).count

-- string k of 1049 is the name, and none before it is
pub record FirstName (s name : List ℕ) (k : ℕ) : Type 0 where
  pub this : IsName s name k
  pub first : (m : ℕ) → m < k → IsName s name m → ⊥

-- the number that element k of 1048 shows
abbrev pub flags_shown : List ℕ → ℕ → ℕ
flags_shown s k = be32_at (find_element_bytes s 1 1048 4 k) 0

-- bit 1 of a number is 0x02, less; bit 2 is 0x04, greater; bit 3 is 0x08, equal
abbrev pub Less : ℕ → Type 0
Less flags = flags / 2 % 2 ≡ 1

abbrev pub Greater : ℕ → Type 0
Greater flags = flags / 4 % 2 ≡ 1

abbrev pub Equal : ℕ → Type 0
Equal flags = flags / 8 % 2 ≡ 1

-- a given text meets a required one: a flagged relation holds between them, or none is flagged
abbrev pub Meets : ℕ → List ℕ → List ℕ → Type 0
Meets flags given required =
    (Less flags × (by_text given required ≡ order.Less)) ⊎ ((Greater flags × (by_text given required ≡ order.Greater))
    ⊎ ((Equal flags × (by_text given required ≡ order.Equal)) ⊎ ((Less flags → ⊥) × (Greater flags → ⊥) × (Equal flags → ⊥))))

-- With the name's flags and version beside its first place among the names, the answer is yes exactly when the given text meets
-- the required one, and else no. The required text is the string that is shown, without its zero byte.
abbrev pub MeetsSays : Type 0
MeetsSays =
    (s name given : List ℕ) (k : ℕ) → Flagged s → FirstName s name k
    → (required : List ℕ) × (find_element_bytes s 1 1050 8 k ≡ required ++ (0 ∷ []))
    × ((meets_answer s name given ≡ Ok 1) ↔ Meets (flags_shown s k) given required)
    × ((meets_answer s name given ≡ Ok 0) ↔ (Meets (flags_shown s k) given required → ⊥))

-- Where checks 2 to 13 and 28 pass, and the name is not among the names or the three are not as they should be, it is 25 at 0.
abbrev pub MeetsElse : Type 0
MeetsElse =
    (s name given : List ℕ) → sound_check s ≡ pass → (Flagged s → (k : ℕ) → IsName s name k → ⊥)
    → meets_answer s name given ≡ Err (refusal 25 0)

-- Where one of those checks fails, it is the answer.
abbrev pub MeetsRefused : Type 0
MeetsRefused =
    (s name given : List ℕ) (number place : ℕ) → sound_check s ≡ Err (refusal number place)
    → meets_answer s name given ≡ Err (refusal number place)
