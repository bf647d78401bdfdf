-- The line lies in the buffer, as the promise of `line` says.
-- Assumes nothing.
use mathlib.Core.Path.{sym}
use lib.Seq.{length-take-le}
use Rattle.text.proofs.LineLaws as laws
use Rattle.inspect.proofs.show.put_line.Goals as goal

pub slice_bounds-put-end : goal.slice_bounds-put-end
slice_bounds-put-end g c = sym (length-take-le _ _ (search laws.within))
