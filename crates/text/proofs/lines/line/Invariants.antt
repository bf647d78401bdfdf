-- After i numbers, what is left of the line put behind them makes the whole.
-- Assumes nothing.
use Prim.Native.Nat.{◌+◌, ◌*◌, ◌≤◌}
use mathlib.Core.Path.{◌≡◌}
use lib.ListN.{length, drop}
use Rattle.text.specs.Lines.{line_of, put_at, Put}
use Rattle.text.proofs.lines.line.Given as goal

abbrev pub invariant-loop-n : goal.invariant-loop-n
invariant-loop-n l = (l.at ≤ 11 * l.n-index) × (length l.out ≡ length l.initial.out)
    × (Put l.initial.out 0 (line_of l.numbers) (l.at + length (line_of (drop l.n-index l.numbers))) (put_at l.out l.at (line_of (drop l.n-index l.numbers))))
