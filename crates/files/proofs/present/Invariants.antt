-- The tags that are left decide.
use Rattle.std.proofs.Common.{◌≡◌, drop}
use Rattle.tags.specs.Tables.{shown_by}
use Rattle.files.specs.Files.{present_check}
use Rattle.files.proofs.present.Given as goal

abbrev pub invariant-loop-tag : goal.invariant-loop-tag
invariant-loop-tag l = present_check (shown_by l.tags) l.group ≡ present_check (shown_by l.tags) (drop l.tag-index l.group)
