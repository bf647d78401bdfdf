-- Strings in a row, each ended by a zero byte.
use Rattle.std.specs.Prelude.{ℕ, zero, suc, ◌+◌, List, [], ◌∷◌, ◌++◌, Bool, true, false, cond, get_or, eqb, leb, Option, Some, None}

-- the place behind `count` strings in a row from `at`, where they end in the `room` bytes from there
unfoldable pub strings_from : List ℕ → ℕ → ℕ → ℕ → Option ℕ
strings_from s room at zero = Some at
strings_from s zero at (suc count) = None
strings_from s (suc room) at (suc count) =
    cond (eqb (get_or s at 0) 0) (strings_from s room (at + 1) count) (strings_from s room (at + 1) (suc count))

-- the place of the first zero byte of the `room` bytes from `at`; the place behind them where there is none
unfoldable pub next_zero : List ℕ → ℕ → ℕ → ℕ
next_zero s zero at = at
next_zero s (suc room) at = cond (eqb (get_or s at 0) 0) at (next_zero s room (at + 1))

-- the place behind `count` empty strings from `at`, each one zero byte, where they end in the `room` bytes from there
abbrev pub empty_strings : ℕ → ℕ → ℕ → Option ℕ
empty_strings room at count = cond (leb count room) (Some (at + count)) None

abbrev pub is_ended : Option ℕ → Bool
is_ended (Some at) = true
is_ended None = false

-- texts in a row, each with a zero byte behind it
unfoldable pub in_row : List (List ℕ) → List ℕ
in_row [] = []
in_row (text ∷ rest) = text ++ 0 ∷ in_row rest
