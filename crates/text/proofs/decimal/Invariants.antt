-- What is left of the word, after digits of the value so far, spells what the whole word does.
-- Assumes nothing.
use Prim.Native.Nat.{◌≤◌}
use mathlib.Core.Path.{◌≡◌}
use lib.ListN.{drop}
use Rattle.text.specs.Decimal.{decimal_after, decimal_of}
use Rattle.text.proofs.decimal.Given as goal

abbrev pub invariant-loop-b : goal.invariant-loop-b
invariant-loop-b l = (l.value ≤ 0xFFFFFFFF) × (decimal_of l.word ≡ decimal_after l.value (drop l.b-index l.word))
