-- A tag among records of 16 bytes, whose first number is their tag.
use Rattle.std.specs.Prelude.{ℕ, zero, suc, ◌+◌, ◌*◌, List, Bool, false, cond, ◌||◌, get_or, eqb}
use Rattle.be.specs.Numbers.{be32_at}

-- record i has a tag
unfoldable pub has_tag : List ℕ → ℕ → ℕ → Bool
has_tag s tag i = eqb (be32_at s (16 * i)) tag

-- one of the first n records has a tag
unfoldable pub tag_among : List ℕ → ℕ → ℕ → Bool
tag_among s zero tag = false
tag_among s (suc n) tag = eqb (be32_at s (16 * n)) tag || tag_among s n tag

-- one of four records from a place on has a tag with a last byte
unfoldable pub low_among : List ℕ → ℕ → ℕ → Bool
low_among s at low =
    eqb (get_or s (at + 3) 0) low || (eqb (get_or s (at + 19) 0) low
    || (eqb (get_or s (at + 35) 0) low || eqb (get_or s (at + 51) 0) low))

-- the first of n numbers from i on of which a test holds; the one behind them where there is none
unfoldable pub first_from : (ℕ → Bool) → ℕ → ℕ → ℕ
first_from test zero i = i
first_from test (suc n) i = cond (test i) i (first_from test n (i + 1))
