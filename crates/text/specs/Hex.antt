-- Bytes as lower-case hex text, two digits to a byte, the high one first.
use Rattle.std.specs.Prelude.{ℕ, ◌+◌, ◌*◌, ◌-◌, ◌/◌, ◌%◌, min, ◌≡◌, List, [], ◌∷◌, ◌++◌, cond, ltb, length, take, drop}

-- '0' is 48, 'a' is 97
unfoldable pub hex_digit : ℕ → ℕ
hex_digit n = cond (ltb n 10) (48 + n) (97 + (n - 10))

unfoldable pub hex_of : List ℕ → List ℕ
hex_of [] = []
hex_of (b ∷ bs) = hex_digit (b / 16) ∷ hex_digit (b % 16) ∷ hex_of bs

-- a newline (10) behind them
unfoldable pub hex_line : List ℕ → List ℕ
hex_line bs = hex_of bs ++ 10 ∷ []

-- how many bytes of src are spelled in a buffer
unfoldable pub shown : List ℕ → List ℕ → ℕ
shown src buffer = min (length src) (length buffer / 2)

-- what `hex` answers and leaves in its buffer
pub record Spelled (src before : List ℕ) (written : ℕ) (after : List ℕ) : Type 0 where
  pub count : written ≡ 2 * shown src before
  pub buffer : after ≡ hex_of (take (shown src before) src) ++ drop (2 * shown src before) before
