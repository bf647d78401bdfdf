-- The programs that are left decide.
use Rattle.std.proofs.Common.{◌≡◌, ◌-◌}
use Rattle.format.specs.Verdicts.{run_from}
use Rattle.tags.specs.Tables.{shown_by}
use Rattle.texts.specs.Texts.{programs_check}
use Rattle.texts.proofs.TextsLaws as texts
use Rattle.texts.proofs.programs.Given as goal

abbrev pub invariant-loop-tag : goal.invariant-loop-tag
invariant-loop-tag l = programs_check l.pkg l.header (shown_by l.tags)
    ≡ run_from (texts.program_at l.pkg l.header (shown_by l.tags)) (4 - l.tag-index) l.tag-index
