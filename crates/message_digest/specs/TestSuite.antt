-- RFC 1321, A.5: what the test suite prints, MD5 ("a") = 0cc175b9c0f1b6a831c399e269772661. Proved in proofs/ as test_suite_right.
use Rattle.std.specs.Prelude.{ℕ, ◌+◌, ◌*◌, ◌≡◌, List, [], ◌∷◌}
use Prim.Native.String.{String}
use Rattle.message_digest.specs.Ascii.{ascii}
use Rattle.message_digest.specs.Md5.{digest}

-- bytes as they are printed, in hexadecimal and the first byte first, read as one number; high is that of the bytes before
unfoldable pub printed : (high : ℕ) → List ℕ → ℕ
printed high [] = high
printed high (byte ∷ rest) = printed (256 * high + byte) rest

abbrev pub MD5 : String → ℕ → Type 0
MD5 text number = printed 0 (digest (ascii text)) ≡ number

pub record TestSuiteRight : Type 0 where
  pub empty : MD5 "" 0xd41d8cd98f00b204e9800998ecf8427e
  pub a : MD5 "a" 0x0cc175b9c0f1b6a831c399e269772661
  pub abc : MD5 "abc" 0x900150983cd24fb0d6963f7d28e17f72
  pub words : MD5 "message digest" 0xf96b697d7cb7938d525a2f31aaf161d0
  pub alphabet : MD5 "abcdefghijklmnopqrstuvwxyz" 0xc3fcd3d76192e4007dfb496cca67e13b
  pub letters : MD5 "ABCDEFGHIJKLMNOPQRSTUVWXYZabcdefghijklmnopqrstuvwxyz0123456789" 0xd174ab98d277d9f5a5611c2c9f419d9f
  pub digits :
      MD5 "12345678901234567890123456789012345678901234567890123456789012345678901234567890" 0x57edf4a22be3c955ac49da2e2107b67a
