-- Document 01, "Numbers the station shows": look-ups.
use Rattle.std.specs.Prelude.{ℕ, List, [], take, drop, Option, Some, None, Result, Ok, Err}
use Rattle.index.specs.declared.Entry.{Entry}
use Rattle.index.specs.Lookup.{find_in}
use Rattle.package.specs.Package.{sound_check, structure_of}
use Rattle.format.specs.Verdicts.{Verdict, Answer, refusal}
use Rattle.format.specs.declared.verdict.Refusal.{Refusal}

-- 2 to 13 and 28, then 25 | look-up: no record of that tag and type | 0
abbrev pub sought_as : Verdict → Option Entry → Result Entry Refusal
sought_as (Ok _) (Some entry) = Ok entry
sought_as (Ok _) None = Err (refusal 25 0)
sought_as (Err e) found = Err e

unfoldable pub sought : List ℕ → ℕ → ℕ → ℕ → Result Entry Refusal
sought s which tag ty = sought_as (sound_check s) (find_in s (structure_of s which) tag ty)

-- the part of the package that is the data, or an empty part when refused
abbrev pub entry_bytes : List ℕ → Entry → List ℕ
entry_bytes s entry = take entry.extent (drop entry.at.0 s)

abbrev pub sought_bytes : List ℕ → Result Entry Refusal → List ℕ
sought_bytes s (Ok entry) = entry_bytes s entry
sought_bytes s (Err e) = []

-- number and place: on success 0 and the data's file offset
abbrev pub sought_answer : Result Entry Refusal → Answer
sought_answer (Ok entry) = Ok entry.at.0
sought_answer (Err e) = Err e

abbrev pub find_bytes : List ℕ → ℕ → ℕ → ℕ → List ℕ
find_bytes s which tag ty = sought_bytes s (sought s which tag ty)

abbrev pub find_answer : List ℕ → ℕ → ℕ → ℕ → Answer
find_answer s which tag ty = sought_answer (sought s which tag ty)
