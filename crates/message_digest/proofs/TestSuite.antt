-- RFC 1321, A.5: the test suite, by computation.
-- Assumes nothing.
use mathlib.Core.Path.{refl}
use Rattle.words.specs.Words.{word_at, low_first, rotated, auxiliary, increased}
use Rattle.rounds.specs.Table.{table}
use Rattle.rounds.specs.Rounds.{assigned, operated, operations, performed, block, blocks}
use Rattle.message_digest.specs.Md5.{padding_bytes, length_bytes, padded, start, output, digest}
use Rattle.message_digest.specs.Ascii.{ascii}
use Rattle.message_digest.specs.TestSuite.{printed, TestSuiteRight}

pub test_suite_right : TestSuiteRight
unfolding word_at low_first rotated auxiliary increased table assigned operated operations performed block blocks
    padding_bytes length_bytes padded start output digest ascii printed
test_suite_right = record {
  empty = refl;
  a = refl;
  abc = refl;
  words = refl;
  alphabet = refl;
  letters = refl;
  digits = refl;
}
