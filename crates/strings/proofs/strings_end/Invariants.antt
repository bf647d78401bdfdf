-- What is left to scan, with the strings that are left, ends where the whole does.
use Rattle.std.proofs.Common.{◌≡◌, ◌-◌}
use Rattle.strings.specs.Strings.{strings_from}
use Rattle.strings.proofs.strings_end.Given as goal

abbrev pub invariant-loop-done : goal.invariant-loop-done
invariant-loop-done l = strings_from l.s (l.end - l.at) l.at l.count ≡ strings_from l.s (l.end - l.i) l.i (l.count - l.done)
