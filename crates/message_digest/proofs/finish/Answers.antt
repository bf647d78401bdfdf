-- The buffer's first bytes are what is left of the message, and the padding.
-- Assumes nothing.
use Rattle.std.proofs.Common.{length, ap, ◌∙◌}
use Rattle.message_digest.proofs.EndingLaws.{ended, finished_is}
use Rattle.message_digest.proofs.finish.Goals as goal

pub returns : goal.returns
returns c =
    let left = c.remainder-left.ensures ∙ c.chunks_exact.ensures.remainder in
    let rest = ap length c.remainder-left.ensures ∙ c.chunks_exact.ensures.remainder_len in
    let bits = c.copy_from_slice-2.ensures.after ∙ c.to_le_bytes.ensures in
    let buffer = ended (length c.args.s.now) _ rest _ _ c.copy_from_slice.ensures.after bits in
    finished_is _ _ _ _ _ _ c.requires left buffer c.run.ensures
