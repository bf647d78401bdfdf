-- The block of the padded empty message, by computation.
-- Assumes nothing.
use mathlib.Core.Path.{refl}
use Rattle.words.specs.Words.{word_at, rotated, auxiliary, increased}
use Rattle.rounds.specs.Table.{table}
use Rattle.rounds.specs.Rounds.{assigned, operated, operations, performed, block}
use Rattle.rounds.specs.EmptyMessage.{EmptyMessageRight}

pub empty_message_right : EmptyMessageRight
unfolding word_at rotated auxiliary increased table assigned operated operations performed block
empty_message_right = refl
