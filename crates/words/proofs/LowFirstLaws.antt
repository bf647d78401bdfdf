-- A number as so many bytes, the low-order byte first: how many they are, and that `to_le_bytes` makes them.
-- Assumes nothing.
use Rattle.std.proofs.Common.{◌≡◌, ℕ, zero, suc, ◌/◌, length, refl, ap, rules}
use Rattle.std.specs.Int.{w32, w64, to_le_bytes}
use Rattle.words.specs.Words.{low_first}

pub length_low_first : (n x : ℕ) → length (low_first n x) ≡ n
unfolding low_first
length_low_first zero x = refl
length_low_first (suc n) x = ap suc (length_low_first n (x / 256))

pub to_le_bytes_is_4 : (x : ℕ) → to_le_bytes w32 x ≡ low_first 4 x
unfolding low_first
to_le_bytes_is_4 x = search rules

pub to_le_bytes_is_8 : (x : ℕ) → to_le_bytes w64 x ≡ low_first 8 x
unfolding low_first
to_le_bytes_is_8 x = search rules
