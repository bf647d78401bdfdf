-- Request 3, check 27: the smallest package that is written, and what becomes of it when one bit is turned.
use Rattle.std.specs.Prelude.{ℕ, List, [], ◌∷◌, ◌++◌, Bool, get_or, set, Err}
use Rattle.std.specs.Int.Bits.{bit_xor}
use Rattle.package.specs.Package.{signature_at, header_at}
use Rattle.verify.specs.Digests.{digest_check}
use Rattle.samples.specs.Stores.{is_verdict}
use Rattle.samples.specs.Written.{smallest}
use Rattle.format.specs.Verdicts.{Verdict, pass, refusal}

pub record DigestSample : Type 0 where
  pub bytes : List ℕ
  pub verdict : Verdict

-- with the lowest bit of the byte at a place turned
abbrev pub turned : ℕ → List ℕ
turned place = set smallest place (bit_xor (get_or smallest place 0) 1)

-- the header's bytes and the digest's count, from the first to the last, and so does a payload; the lead's name and the bytes
-- before H do not
abbrev pub digests : List DigestSample
digests =
    record { bytes = smallest; verdict = pass }
    ∷ record { bytes = turned 168; verdict = Err (refusal 27 1004) }
    ∷ record { bytes = turned 200; verdict = Err (refusal 27 1004) }
    ∷ record { bytes = turned 148; verdict = Err (refusal 27 1004) }
    ∷ record { bytes = turned 163; verdict = Err (refusal 27 1004) }
    ∷ record { bytes = smallest ++ 0 ∷ []; verdict = Err (refusal 27 1004) }
    ∷ record { bytes = turned 10; verdict = pass }
    ∷ record { bytes = turned 167; verdict = pass }
    ∷ []

abbrev pub digest_right : DigestSample → Bool
digest_right sample =
    is_verdict (digest_check sample.bytes (signature_at sample.bytes) (header_at sample.bytes)) sample.verdict
