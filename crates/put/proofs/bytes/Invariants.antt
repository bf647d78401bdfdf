-- The bytes that there is room for are stored, one to a turn.
use Rattle.std.proofs.Common.{◌≡◌, ◌+◌, length, drop}
use Rattle.std.proofs.lemmas.List.Edits.{sets}
use Rattle.put.proofs.bytes.Given as goal

abbrev pub invariant-loop-i : goal.invariant-loop-i
invariant-loop-i l = (sets l.initial.out l.at l.from ≡ sets l.out (l.at + l.i) (drop l.i l.from))
    × (length l.out ≡ length l.initial.out)
