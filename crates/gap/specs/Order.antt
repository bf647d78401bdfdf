-- Request 5: "Bytes between the signature's end and H must be zero. New refusal 28, place the first non-zero byte's file offset." What
-- that comes to, in a package that may end inside the gap. Each is proved in proofs/ under its name in small letters.
use Rattle.std.specs.Prelude.{ℕ, ◌≤◌, ◌<◌, ◌≡◌, ◌↔◌, ◌≢◌, List, get_or, Err}
use Rattle.gap.specs.Gap.{gap_check}
use Rattle.format.specs.Verdicts.{pass, refusal}

-- a byte between the signature's end and H that a package of len bytes has
pub record InGap (len end start i : ℕ) : Type 0 where
  pub after : end ≤ i
  pub before : i < start
  pub there : i < len

-- the first of them that isn't zero
pub record FirstStray (s : List ℕ) (len end start place : ℕ) : Type 0 where
  pub within : InGap len end start place
  pub stray : get_or s place 0 ≢ 0
  pub before : (i : ℕ) → InGap len end start i → i < place → get_or s i 0 ≡ 0

abbrev pub GapPass : Type 0
GapPass =
    (s : List ℕ) (len end start : ℕ)
    → (gap_check s len end start ≡ pass) ↔ ((i : ℕ) → InGap len end start i → get_or s i 0 ≡ 0)

abbrev pub GapInOrder : Type 0
GapInOrder =
    (s : List ℕ) (len end start number place : ℕ)
    → (gap_check s len end start ≡ Err (refusal number place)) ↔ ((number ≡ 28) × FirstStray s len end start place)
