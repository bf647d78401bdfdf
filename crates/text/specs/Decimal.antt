-- Decimal numbers in text. A word is a number where it has one or more bytes, all are ASCII digits, and the value fits
-- 32 bits. Leading zeros are allowed; a sign is not.
use Rattle.std.specs.Prelude.{ℕ, ◌+◌, ◌*◌, ◌-◌, List, [], ◌∷◌, Bool, true, ◌&&◌, cond, leb, Option, Some, None}

-- '0' is 48, '9' is 57
unfoldable pub is_digit : ℕ → Bool
is_digit b = leb 48 b && leb b 57

unfoldable pub all_digits : List ℕ → Bool
all_digits [] = true
all_digits (b ∷ bs) = is_digit b && all_digits bs

-- the value of digits, where those before them have the value v; it has no bound
unfoldable pub value_after : ℕ → List ℕ → ℕ
value_after v [] = v
value_after v (b ∷ bs) = value_after (v * 10 + (b - 48)) bs

-- what a word is whose first digits have the value v and whose other bytes are bs: its value, where these are digits
-- and the value is at most 2^32 - 1
unfoldable pub decimal_after : ℕ → List ℕ → Option ℕ
decimal_after v bs = cond (all_digits bs && leb (value_after v bs) 0xFFFFFFFF) (Some (value_after v bs)) None

-- the empty word is no number
unfoldable pub decimal_of : List ℕ → Option ℕ
decimal_of [] = None
decimal_of (b ∷ bs) = decimal_after 0 (b ∷ bs)
