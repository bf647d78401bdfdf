-- The records that are left decide.
use Rattle.std.proofs.Common.{ℕ, ◌≡◌, ◌-◌}
use Rattle.format.specs.Verdicts.{run_from}
use Rattle.entries.specs.Entries.{record_at}
use Rattle.locales.specs.Locales.{locale_check, locales_check}
use Rattle.locales.proofs.check.Given as goal

abbrev pub invariant-loop-i : goal.invariant-loop-i
invariant-loop-i l = locales_check l.s l.header l.most
    ≡ run_from (λ (k : ℕ). locale_check l.most (record_at l.s l.header k)) (l.header.nindex - l.i) l.i
