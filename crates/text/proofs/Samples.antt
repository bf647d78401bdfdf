-- Words that are numbers and words that are not; bytes in hex; a line of numbers.
use mathlib.Core.Path.{◌≡◌, refl}
use mathlib.Core.List.{[], ◌∷◌}
use Rattle.std.proofs.Common.{Some, None}
use Rattle.text.specs.Decimal.{is_digit, all_digits, value_after, decimal_after, decimal_of}
use Rattle.text.specs.Hex.{hex_digit, hex_of}
use Rattle.text.specs.Lines.{digits_of, numeral_of, end_of, line_of}

-- "0", "007", "4294967295"; "4294967296", "", "+1"
words : (decimal_of (48 ∷ []) ≡ Some 0)
    × (decimal_of (48 ∷ 48 ∷ 55 ∷ []) ≡ Some 7)
    × (decimal_of (52 ∷ 50 ∷ 57 ∷ 52 ∷ 57 ∷ 54 ∷ 55 ∷ 50 ∷ 57 ∷ 53 ∷ []) ≡ Some 4294967295)
    × (decimal_of (52 ∷ 50 ∷ 57 ∷ 52 ∷ 57 ∷ 54 ∷ 55 ∷ 50 ∷ 57 ∷ 54 ∷ []) ≡ None)
    × (decimal_of [] ≡ None)
    × (decimal_of (43 ∷ 49 ∷ []) ≡ None)
unfolding decimal_of decimal_after value_after all_digits is_digit
words = (refl, refl, refl, refl, refl, refl)

-- "009aff"
bytes : hex_of (0x00 ∷ 0x9A ∷ 0xFF ∷ []) ≡ 48 ∷ 48 ∷ 57 ∷ 97 ∷ 102 ∷ 102 ∷ []
unfolding hex_of hex_digit
bytes = refl

-- "0 10 4294967295\n"
numbers : line_of (0 ∷ 10 ∷ 4294967295 ∷ [])
    ≡ 48 ∷ 32 ∷ 49 ∷ 48 ∷ 32 ∷ 52 ∷ 50 ∷ 57 ∷ 52 ∷ 57 ∷ 54 ∷ 55 ∷ 50 ∷ 57 ∷ 53 ∷ 10 ∷ []
unfolding line_of end_of numeral_of digits_of
numbers = refl
