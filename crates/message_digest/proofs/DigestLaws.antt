-- A digest is 16 bytes.
-- Assumes nothing.
use mathlib.Core.Path.{◌≡◌}
use mathlib.Core.List.{List}
use Prim.Native.Nat.{ℕ}
use lib.ListN.{length, length-append}
use Rattle.words.proofs.LowFirstLaws.{length_low_first}
use Rattle.message_digest.specs.Md5.{output, digest}

pub digest_length : (s : List ℕ) → length (digest s) ≡ 16
unfolding digest output
digest_length s = simp (length-append, length_low_first)
