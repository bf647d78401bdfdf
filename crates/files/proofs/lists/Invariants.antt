-- The tags that are left decide.
use Rattle.std.proofs.Common.{◌≡◌, ℕ, ◌-◌, get_or}
use Rattle.format.specs.Verdicts.{run_from}
use Rattle.tags.specs.Tables.{shown_by}
use Rattle.files.specs.Files.{count_check, counts_check, file_tags}
use Rattle.files.proofs.lists.Given as goal

abbrev pub invariant-loop-tag : goal.invariant-loop-tag
invariant-loop-tag l = counts_check (shown_by l.header) l.n file_tags
    ≡ run_from (λ (k : ℕ). count_check (shown_by l.header) l.n (get_or file_tags k 0)) (12 - l.tag-index) l.tag-index
