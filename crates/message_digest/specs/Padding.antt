-- RFC 1321, 3.1 and 3.2, in its own words: what a padded message is. Proved in proofs/ as padding_right.
use Rattle.std.specs.Prelude.{ℕ, ◌+◌, ◌*◌, ◌%◌, ◌≤◌, ◌^◌, ◌≡◌, List, ◌∷◌, ◌++◌, length, replicate}
use Rattle.words.specs.Words.{low_first}
use Rattle.message_digest.specs.Md5.{padded}

pub record IsPadded (message all : List ℕ) : Type 0 where
  pub zeros : ℕ
  -- the message, a 1 bit and 0 bits, and the length in bits as eight bytes
  pub bytes : all ≡ message ++ ((128 ∷ replicate zeros 0) ++ low_first 8 (8 * length message % 2 ^ 64))
  -- "congruent to 448, modulo 512"
  pub congruent : 8 * (length message + 1 + zeros) % 512 ≡ 448
  -- "In all, at least one bit and at most 512 bits are appended."
  pub most : 8 * (1 + zeros) ≤ 512
  -- "At this point the resulting message ... has a length that is an exact multiple of 512 bits."
  pub whole : 8 * length all % 512 ≡ 0

abbrev pub PaddingRight : Type 0
PaddingRight = (message : List ℕ) → IsPadded message (padded message)
