-- What a package shows through the public calls: a walk over an index, and the look-up of each record that it visits.
use Rattle.std.specs.Prelude.{ℕ, List, [], ◌∷◌, drop}
use Rattle.format.specs.Sizes.{nindex_limit}
use Rattle.format.specs.declared.records.IndexRecord.{IndexRecord}
use Rattle.lookups.specs.Lookup.{find_bytes}
use Rattle.walk.specs.Theorems.{walk_from}
use Rattle.lists.specs.Lists.{ListEntry}

-- a record's tag, type and count, and what the look-up of its tag and type shows
abbrev pub looked_up : List ℕ → ℕ → IndexRecord → ListEntry
looked_up s which e =
    record { tag = e.tag; ty = e.ty; count = e.count; bytes = find_bytes s which e.tag e.ty }

unfoldable pub all_looked_up : List ℕ → ℕ → List IndexRecord → List ListEntry
all_looked_up s which [] = []
all_looked_up s which (e ∷ rest) = looked_up s which e ∷ all_looked_up s which rest

-- the entries that a walk from position 0 on shows, up to the step that is refused (no structure has more than 512)
abbrev pub shown : List ℕ → ℕ → List ListEntry
shown s which = all_looked_up s which (walk_from s which nindex_limit 0)

-- all but the writer's own, which are the first two
abbrev pub behind_own : List ListEntry → List ListEntry
behind_own entries = drop 2 entries
