-- A structure as it was checked.
use Rattle.std.specs.Prelude.{ℕ, List, Result, Ok, Err}
use Rattle.format.specs.declared.section.Section.{Section}
use Rattle.format.specs.declared.section.Structure.{Structure}
use Rattle.structure.specs.Structure.{structure_check, section_at}
use Rattle.format.specs.Verdicts.{Verdict}
use Rattle.format.specs.declared.verdict.Refusal.{Refusal}

-- a structure that passed its checks, or the first that failed with its place
abbrev pub checked_as : Verdict → Section → Result Section Refusal
checked_as (Ok _) section = Ok section
checked_as (Err e) section = Err e

abbrev pub structure_checked : Structure → List ℕ → ℕ → ℕ → Result Section Refusal
structure_checked structure s len start = checked_as (structure_check structure s len start) (section_at s start)

-- the paper's number and place: 0 and 0 where all checks passed
abbrev pub checked_number : Result Section Refusal → ℕ
checked_number (Ok section) = 0
checked_number (Err e) = e.number

abbrev pub checked_place : Result Section Refusal → ℕ
checked_place (Ok section) = 0
checked_place (Err e) = e.place
