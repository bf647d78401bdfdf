-- What walks promise.
use Rattle.std.specs.Prelude.{ℕ, zero, suc, ◌+◌, ◌≤◌, ◌≡◌, List, [], ◌∷◌, Ok, Err}
use Rattle.format.specs.declared.section.Section.{Section}
use Rattle.format.specs.declared.records.IndexRecord.{IndexRecord}
use Rattle.entries.specs.Entries.{record_at}
use Rattle.package.specs.Package.{sound_check, structure_of}
use Rattle.walk.specs.Walk.{step_of}
use Rattle.format.specs.Verdicts.{Answer, pass}

-- what a walk has seen after a step: a refused step ends it
abbrev pub visited : Answer → IndexRecord → List IndexRecord → List IndexRecord
visited (Ok place) found rest = found ∷ rest
visited (Err e) found rest = []

-- the records of at most n steps from a position, each step from the position that the one before handed back
unfoldable pub walk_from : List ℕ → ℕ → ℕ → ℕ → List IndexRecord
walk_from s which zero position = []
walk_from s which (suc n) position =
    let step = step_of s which position in
    visited step.answer step.found (walk_from s which n step.next.number)

-- n index records of a structure from number i on
unfoldable pub records_of : List ℕ → Section → ℕ → ℕ → List IndexRecord
records_of s section zero i = []
records_of s section (suc n) i = record_at s section i ∷ records_of s section n (i + 1)

-- A walk from position 0, of nindex or more steps, visits every index record once, in order. (`step_of` itself says that
-- a step's place is its record's.)
abbrev pub WalkVisitsAll : Type 0
WalkVisitsAll =
    (s : List ℕ) (which steps : ℕ) → sound_check s ≡ pass → (structure_of s which).nindex ≤ steps
    → walk_from s which steps 0 ≡ records_of s (structure_of s which) (structure_of s which).nindex 0
