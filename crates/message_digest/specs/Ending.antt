-- What the contract of the last block or two cites: no part of RFC 1321.
use Rattle.std.specs.Prelude.{ℕ, ◌+◌, ◌-◌, ◌/◌, ◌%◌, List, ◌++◌, length, drop}
use Rattle.words.specs.declared.State.{State}
use Rattle.rounds.specs.Table.{table}
use Rattle.rounds.specs.Rounds.{blocks}
use Rattle.message_digest.specs.Md5.{padding_bytes, length_bytes}

-- the blocks of what is left after the whole ones, with the padding
unfoldable pub finished : List ℕ → State → State
finished s q =
    blocks (drop (length s - length s % 64) s ++ (padding_bytes (length s) ++ length_bytes (length s))) table
    ((length s % 64 + (9 + (119 - length s % 64) % 64)) / 64) 0 q
