-- Request 3: the digest of any bytes, put into a lent buffer.
use Rattle.std.specs.Prelude.{ℕ, ◌≡◌, List, cond, length, leb, Ok, Err}
use Rattle.std.proofs.lemmas.List.Edits.{sets}
use Rattle.message_digest.specs.Md5.{digest}
use Rattle.format.specs.Verdicts.{Answer, refusal}

-- how many bytes a digest has
abbrev pub digest_size : ℕ
digest_size = 16

-- 34 | buffer under 16 bytes | 16
unfoldable pub digest_answer : ℕ → Answer
digest_answer room = cond (leb digest_size room) (Ok digest_size) (Err (refusal 34 digest_size))

-- the digest at the front, and nothing behind it changed; where it is refused, nothing at all
unfoldable pub digest_after : List ℕ → List ℕ → List ℕ
digest_after bytes before = cond (leb digest_size (length before)) (sets before 0 (digest bytes)) before

pub record DigestPut (bytes before : List ℕ) (answer : Answer) (after : List ℕ) : Type 0 where
  pub answered : answer ≡ digest_answer (length before)
  pub buffer : after ≡ digest_after bytes before
