-- Requests 1 and 3: the smallest package that is written, byte for byte. Its name is "a", the caller's signature list is empty, and
-- the header's is one byte of bin, 7, under the tag 1.
use Rattle.std.specs.Prelude.{ℕ, List, [], ◌∷◌, ◌++◌, Bool, replicate}
use Rattle.be.specs.Bytes.{same_bytes}
use Rattle.lists.specs.Lists.{ListEntry}
use Rattle.layout.specs.Layout.{written}

abbrev pub one_byte : ListEntry
one_byte = record { tag = 1; ty = 7; count = 1; bytes = 7 ∷ [] }

abbrev pub smallest : List ℕ
smallest =
    -- 0: the lead
    0xED ∷ 0xAB ∷ 0xEE ∷ 0xDB ∷ 3 ∷ 0 ∷ 0 ∷ 0 ∷ 0 ∷ 0
    ∷ 0x61 ∷ replicate 65 0
    ++ 0 ∷ 1 ∷ 0 ∷ 5 ∷ replicate 16 0
    -- 96: the signature, with two index records, and 20 bytes of store
    ++ 0x8E ∷ 0xAD ∷ 0xE8 ∷ 0x01 ∷ 0 ∷ 0 ∷ 0 ∷ 0 ∷ 0 ∷ 0 ∷ 0 ∷ 2 ∷ 0 ∷ 0 ∷ 0 ∷ 20
    -- 112: 1000, int32, at offset 0, count 1
    ∷ 0 ∷ 0 ∷ 3 ∷ 0xE8 ∷ 0 ∷ 0 ∷ 0 ∷ 4 ∷ 0 ∷ 0 ∷ 0 ∷ 0 ∷ 0 ∷ 0 ∷ 0 ∷ 1
    -- 128: 1004, bin, at offset 4, count 16
    ∷ 0 ∷ 0 ∷ 3 ∷ 0xEC ∷ 0 ∷ 0 ∷ 0 ∷ 7 ∷ 0 ∷ 0 ∷ 0 ∷ 4 ∷ 0 ∷ 0 ∷ 0 ∷ 16
    -- 144: the number under 1000, 33: the length, 201, less H, 168
    ∷ 0 ∷ 0 ∷ 0 ∷ 33
    -- 148: the digest under 1004, which md5sum gives for the 33 bytes from H on; and four zero bytes before H
    ∷ 0xA9 ∷ 0x72 ∷ 0xE7 ∷ 0x4C ∷ 0x17 ∷ 0x1A ∷ 0x07 ∷ 0xF1 ∷ 0x71 ∷ 0xC5 ∷ 0x7C ∷ 0x69 ∷ 0x14 ∷ 0xE3 ∷ 0x58 ∷ 0x7C
    ∷ 0 ∷ 0 ∷ 0 ∷ 0
    -- 168: the header, with one index record, and one byte of store
    ∷ 0x8E ∷ 0xAD ∷ 0xE8 ∷ 0x01 ∷ 0 ∷ 0 ∷ 0 ∷ 0 ∷ 0 ∷ 0 ∷ 0 ∷ 1 ∷ 0 ∷ 0 ∷ 0 ∷ 1
    -- 184: the tag 1, bin, at offset 0, count 1
    ∷ 0 ∷ 0 ∷ 0 ∷ 1 ∷ 0 ∷ 0 ∷ 0 ∷ 7 ∷ 0 ∷ 0 ∷ 0 ∷ 0 ∷ 0 ∷ 0 ∷ 0 ∷ 1
    -- 200: its byte
    ∷ 7
    ∷ []

abbrev pub smallest_right : Bool
smallest_right = same_bytes (written (0x61 ∷ []) [] (one_byte ∷ [])) smallest
