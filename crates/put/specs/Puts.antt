-- Bytes put into a lent buffer: numbers are big-endian, four bytes each. (`sets out at bytes` is a buffer with bytes from a
-- place on, as far as it has them.)
use Rattle.std.specs.Prelude.{ℕ, ◌/◌, ◌%◌, List, [], ◌∷◌, ◌++◌, replicate}

unfoldable pub bytes_of : ℕ → List ℕ
bytes_of n = n / 16777216 % 256 ∷ n / 65536 % 256 ∷ n / 256 % 256 ∷ n % 256 ∷ []

-- four numbers in a row
unfoldable pub four_bytes : ℕ → ℕ → ℕ → ℕ → List ℕ
four_bytes a b c d = bytes_of a ++ (bytes_of b ++ (bytes_of c ++ bytes_of d))

abbrev pub zeros : ℕ → List ℕ
zeros n = replicate n 0
