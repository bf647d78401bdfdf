-- Document 01: for C the dose buffer is bytes, four to a number, big-endian, a remainder unused; number and place come back as
-- number × 2^32 + place.
use Rattle.std.specs.Prelude.{ℕ, ◌≡◌, List, length}
use Rattle.format.specs.Verdicts.{packed_of}
use Rattle.std.specs.declared.cmp.Ordering.{Ordering}
use Rattle.std.specs.declared.cmp.Ordering.TheVariants as order
use Rattle.reading.specs.Reading.{read_answer}
use Rattle.reading.specs.Buffers.{numbers_in, bytes_after}
use Rattle.verify.specs.Lent.{digest_answer, digest_after}
use Rattle.writer.specs.Writing.{write_answer, buffer_after}

pub record StationRead (edition : ℕ) (s before : List ℕ) (answer : ℕ) (after : List ℕ) : Type 0 where
  pub answered : answer ≡ packed_of (read_answer edition s (numbers_in before))
  pub buffer : after ≡ bytes_after edition s before

-- Request 1: the writing, for C
pub record StationWrite (name signature signatureRow header headerRow before : List ℕ) (answer : ℕ) (after : List ℕ) : Type 0
  where
    pub answered : answer ≡ packed_of (write_answer name signature signatureRow header headerRow before)
    pub buffer : after ≡ buffer_after name signature signatureRow header headerRow before

-- Request 3: the digest, for C
pub record StationDigest (bytes before : List ℕ) (answer : ℕ) (after : List ℕ) : Type 0 where
  pub answered : answer ≡ packed_of (digest_answer (length before))
  pub buffer : after ≡ digest_after bytes before

-- Request 6: how one version text stands to another, for C
abbrev pub order_number : Ordering → ℕ
order_number order.Less = 0
order_number order.Equal = 1
order_number order.Greater = 2
