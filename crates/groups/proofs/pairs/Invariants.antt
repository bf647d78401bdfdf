-- The pairs that are left decide.
use Rattle.std.proofs.Common.{ℕ, ◌≡◌, ◌-◌, length, get_or}
use Rattle.format.specs.Verdicts.{run_from}
use Rattle.tags.specs.Tables.{shown_by}
use Rattle.groups.specs.Groups.{needs_check, pairs_check}
use Rattle.groups.proofs.pairs.Given as goal

abbrev pub invariant-loop-tag : goal.invariant-loop-tag
invariant-loop-tag l = pairs_check (shown_by l.tags) l.pairs
    ≡ run_from (λ (k : ℕ). needs_check (shown_by l.tags) (get_or l.pairs k (0, 0)).0 (get_or l.pairs k (0, 0)).1)
    (length l.pairs - l.tag-index) l.tag-index
