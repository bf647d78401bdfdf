-- The hex text lies in the buffer, as the promise of `hex` says.
-- Assumes nothing.
use mathlib.Core.Path.{sym}
use lib.Seq.{length-take-le}
use Rattle.text.proofs.HexLaws as laws
use Rattle.inspect.proofs.show.put_part.Goals as goal

pub slice_bounds-put-end : goal.slice_bounds-put-end
slice_bounds-put-end g c = sym (length-take-le _ _ (search laws.within))
