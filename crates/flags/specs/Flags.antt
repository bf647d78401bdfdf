-- Flags of numbers: 4,096 of them, in 64 words of 64 bits. A number has the flag of its lowest 12 bits, and shares it with
-- every other number that ends alike.
use Rattle.std.specs.Prelude.{ℕ, ◌/◌, ◌%◌, ◌^◌, List, Bool, get_or, set, eqb}
use Rattle.std.specs.Int.Bits.{bit_or}

-- the word and the bit of a number's flag
abbrev pub word_of : ℕ → ℕ
word_of n = n / 64 % 64

abbrev pub bit_of : ℕ → ℕ
bit_of n = n % 64

-- the flag of a number is set
unfoldable pub is_set : List ℕ → ℕ → Bool
is_set flags n = eqb (get_or flags (word_of n) 0 / 2 ^ bit_of n % 2) 1

-- the flags with that of a number set
unfoldable pub marked : List ℕ → ℕ → List ℕ
marked flags n = set flags (word_of n) (bit_or (get_or flags (word_of n) 0) (2 ^ bit_of n))
