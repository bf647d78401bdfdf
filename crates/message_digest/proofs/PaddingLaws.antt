-- The padding: its length, and that it is as RFC 1321 says in 3.1 and 3.2.
-- Assumes nothing.
use mathlib.Core.Path.{◌≡◌, refl, ap, ◌∙◌}
use mathlib.Core.List.{List, ◌++◌}
use Prim.Native.Nat.{ℕ, ◌+◌, ◌-◌, ◌%◌}
use native.Mathlib.Omega.{arith}
use lib.ListN.{length, length-append, length-replicate}
use Rattle.words.proofs.LowFirstLaws.{length_low_first}
use Rattle.message_digest.specs.Md5.{padding_bytes, length_bytes, padded}
use Rattle.message_digest.specs.Padding.{PaddingRight}

pub length_padding : (n : ℕ) → length (padding_bytes n ++ length_bytes n) ≡ 9 + (119 - n % 64) % 64
unfolding padding_bytes length_bytes
length_padding n =
    simp (length-append, length-replicate, length_low_first) (omega arith)

pub length_padded : (message : List ℕ) → length (padded message) ≡ length message + (9 + (119 - length message % 64) % 64)
unfolding padded
length_padded message = length-append message _ ∙ ap (λ (k : ℕ). length message + k) (length_padding (length message))

pub padding_right : PaddingRight
unfolding padded padding_bytes length_bytes
padding_right message = record {
  zeros = (119 - length message % 64) % 64;
  bytes = refl;
  congruent = omega arith;
  most = omega arith;
  whole = omega (arith, length_padded message);
}
