-- The groups that are left decide.
use Rattle.std.proofs.Common.{◌≡◌, ◌-◌}
use Rattle.format.specs.Verdicts.{run_from}
use Rattle.tags.specs.Tables.{shown_by}
use Rattle.groups.specs.Groups.{led_groups}
use Rattle.groups.proofs.GroupsLaws.{led_at}
use Rattle.groups.proofs.led_groups.Given as goal

abbrev pub invariant-loop-group : goal.invariant-loop-group
invariant-loop-group l = led_groups (shown_by l.header) ≡ run_from (led_at (shown_by l.header)) (5 - l.group-index) l.group-index
