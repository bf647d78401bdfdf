-- Numbers of 32 bits in decimal, on a line: one space between two, a newline behind the last.
use Rattle.std.specs.Prelude.{ℕ, zero, suc, ◌+◌, ◌/◌, ◌%◌, ◌≡◌, List, [], ◌∷◌, ◌++◌, cond, ltb, leb, length, take, drop}

-- the digits of a number, no zero in front; k bounds how many
unfoldable pub digits_of : ℕ → ℕ → List ℕ
digits_of zero n = []
digits_of (suc k) n = cond (ltb n 10) ((48 + n) ∷ []) (digits_of k (n / 10) ++ (48 + n % 10) ∷ [])

-- ten digits hold any number of 32 bits
unfoldable pub numeral_of : ℕ → List ℕ
numeral_of n = digits_of 10 n

-- what stands behind a number: a space (32), behind the last a newline (10)
unfoldable pub end_of : List ℕ → ℕ
end_of [] = 10
end_of (n ∷ ns) = 32

unfoldable pub line_of : List ℕ → List ℕ
line_of [] = []
line_of (n ∷ ns) = numeral_of n ++ end_of ns ∷ line_of ns

-- the line where the buffer has 11 bytes for each number, else nothing
unfoldable pub line_for : List ℕ → List ℕ → List ℕ
line_for ns buffer = cond (leb (length ns) (length buffer / 11)) (line_of ns) []

-- bytes put into a buffer from a place on
unfoldable pub put_at : List ℕ → ℕ → List ℕ → List ℕ
put_at before at bytes = take at before ++ (bytes ++ drop (at + length bytes) before)

-- what a function that writes bytes at a place answers, the place behind them, and leaves in its buffer
pub record Put (before : List ℕ) (at : ℕ) (bytes : List ℕ) (next : ℕ) (after : List ℕ) : Type 0 where
  pub place : next ≡ at + length bytes
  pub buffer : after ≡ put_at before at bytes
