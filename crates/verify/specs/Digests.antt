-- Request 3: the digest of a package, over the bytes from H to its end.
use Rattle.std.specs.Prelude.{ℕ, List, drop}
use Rattle.be.specs.Bytes.{same_bytes}
use Rattle.format.specs.declared.section.Section.{Section}
use Rattle.format.specs.Verdicts.{check, Verdict, pass}
use Rattle.lookups.specs.Within.{bytes_in}
use Rattle.message_digest.specs.Md5.{digest}

-- the digest that a package states: what a look-up in the signature shows for 1004, bin
abbrev pub stated_in : List ℕ → Section → List ℕ
stated_in s signature = bytes_in s signature 1004 7

-- the bytes from H to the package's end: the header and the payload
abbrev pub from_header : List ℕ → Section → List ℕ
from_header s header = drop header.start.0 s

-- 27 | the signature's 1004 isn't the MD5 of the bytes from H to the end | 1004
unfoldable pub digest_check : List ℕ → Section → Section → Verdict
digest_check s signature header = check (same_bytes (stated_in s signature) (digest (from_header s header))) 27 1004 pass
