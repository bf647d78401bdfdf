-- The tags that are left decide.
use Rattle.std.proofs.Common.{◌≡◌, drop}
use Rattle.tags.specs.Tables.{shown_by}
use Rattle.files.specs.Files.{counted_check}
use Rattle.files.proofs.counted.Given as goal

abbrev pub invariant-loop-tag : goal.invariant-loop-tag
invariant-loop-tag l = counted_check (shown_by l.tags) l.n l.group ≡ counted_check (shown_by l.tags) l.n (drop l.tag-index l.group)
