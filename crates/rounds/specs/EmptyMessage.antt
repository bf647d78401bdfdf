-- RFC 1321, A.5: MD5 ("") = d41d8cd98f00b204e9800998ecf8427e, as registers: the one block of the padded empty message, from the
-- registers of 3.3. Proved in proofs/ as empty_message_right.
use Rattle.std.specs.Prelude.{◌≡◌, ◌∷◌, replicate}
use Rattle.rounds.specs.Table.{table}
use Rattle.rounds.specs.Rounds.{block}

abbrev pub EmptyMessageRight : Type 0
EmptyMessageRight =
    block (128 ∷ replicate 63 0) table (record { a = 0x67452301; b = 0xefcdab89; c = 0x98badcfe; d = 0x10325476 })
    ≡ record { a = 0xd98c1dd4; b = 0x04b2008f; c = 0x980980e9; d = 0x7e42f8ec }
