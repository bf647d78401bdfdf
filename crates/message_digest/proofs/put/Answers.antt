-- The bytes of each register stand behind those of the one before.
-- Assumes nothing.
use Rattle.std.proofs.Common.{◌∙◌}
use Rattle.words.specs.Words.{low_first}
use Rattle.words.proofs.LowFirstLaws.{to_le_bytes_is_4}
use Rattle.message_digest.specs.Md5.{output}
use Rattle.message_digest.proofs.put.Goals as goal

pub returns : goal.returns
unfolding output low_first
returns c =
    let q = c.args.q in
    let a = c.copy_from_slice.ensures.after ∙ c.to_le_bytes.ensures ∙ to_le_bytes_is_4 q.a in
    let b = c.copy_from_slice-2.ensures.after ∙ c.to_le_bytes-2.ensures ∙ to_le_bytes_is_4 q.b in
    let d = c.copy_from_slice-3.ensures.after ∙ c.to_le_bytes-3.ensures ∙ to_le_bytes_is_4 q.c in
    let e = c.copy_from_slice-4.ensures.after ∙ c.to_le_bytes-4.ensures ∙ to_le_bytes_is_4 q.d in
    rw (a, b, d, e)
