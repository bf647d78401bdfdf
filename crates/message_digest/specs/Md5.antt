-- MD5 as RFC 1321 describes it, in its five steps; step 4 is in crate `rounds`. A message is a list of bytes.
use Rattle.std.specs.Prelude.{ℕ, ◌-◌, ◌*◌, ◌/◌, ◌%◌, ◌^◌, List, ◌∷◌, ◌++◌, length, replicate}
use Rattle.words.specs.declared.State.{State}
use Rattle.words.specs.Words.{low_first}
use Rattle.rounds.specs.Table.{table}
use Rattle.rounds.specs.Rounds.{blocks}

-- 3.1: "a single "1" bit is appended to the message, and then "0" bits are appended so that the length in bits of the padded
-- message becomes congruent to 448, modulo 512": the byte 128, and zero bytes up to 56, modulo 64, for a message of n bytes
unfoldable pub padding_bytes : ℕ → List ℕ
padding_bytes n = 128 ∷ replicate ((119 - n % 64) % 64) 0

-- 3.2: "A 64-bit representation of b (the length of the message before the padding bits were added) is appended"; of a greater
-- b, "only the low-order 64 bits of b are used"; two words, the "low-order word first", are eight bytes, the low-order byte first
unfoldable pub length_bytes : ℕ → List ℕ
length_bytes n = low_first 8 (8 * n % 2 ^ 64)

unfoldable pub padded : List ℕ → List ℕ
padded message = message ++ (padding_bytes (length message) ++ length_bytes (length message))

-- 3.3: word A: 01 23 45 67, word B: 89 ab cd ef, word C: fe dc ba 98, word D: 76 54 32 10, "low-order bytes first"
unfoldable pub start : State
start = record { a = 0x67452301; b = 0xefcdab89; c = 0x98badcfe; d = 0x10325476 }

-- 3.4: the blocks of the padded message in turn
abbrev pub processed : List ℕ → State
processed message = blocks (padded message) table (length (padded message) / 64) 0 start

-- 3.5: "The message digest produced as output is A, B, C, D. That is, we begin with the low-order byte of A, and end with the
-- high-order byte of D."
unfoldable pub output : State → List ℕ
output q = low_first 4 q.a ++ (low_first 4 q.b ++ (low_first 4 q.c ++ low_first 4 q.d))

unfoldable pub digest : List ℕ → List ℕ
digest message = output (processed message)
