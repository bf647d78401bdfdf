-- A place behind another. A place is a number of 64 bits.
use Rattle.std.specs.Prelude.{ℕ, ◌+◌, cond, leb}

abbrev pub last_place : ℕ
last_place = 18446744073709551615

-- the place n bytes behind another, or the last place of all
unfoldable pub behind : ℕ → ℕ → ℕ
behind at n = cond (leb (at + n) last_place) (at + n) last_place
