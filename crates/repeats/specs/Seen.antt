-- What a walk over records of 16 bytes keeps of the first i tags.
use Rattle.std.specs.Prelude.{ℕ, ◌*◌, ◌≤◌, ◌<◌, ◌≡◌, List, true}
use Rattle.be.specs.Numbers.{be32_at}
use Rattle.flags.specs.Flags.{is_set}

-- none is over a number
pub record AtMost (s : List ℕ) (i highest : ℕ) : Type 0 where
  pub each : (j : ℕ) → j < i → be32_at s (16 * j) ≤ highest

-- the flag of each is set
pub record Marked (s : List ℕ) (i : ℕ) (flags : List ℕ) : Type 0 where
  pub each : (j : ℕ) → j < i → is_set flags (be32_at s (16 * j)) ≡ true
