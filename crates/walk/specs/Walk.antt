-- Document 01, "Numbers the station shows": walking an index.
use Rattle.std.specs.Prelude.{ℕ, ◌+◌, List, cond, ltb, Ok, Err}
use Rattle.format.specs.declared.section.Section.{Section}
use Rattle.format.specs.Places.{record_place}
use Rattle.entries.specs.Entries.{record_at}
use Rattle.walk.specs.declared.Step.{Step}
use Rattle.package.specs.Package.{sound_check, structure_of}
use Rattle.format.specs.Verdicts.{Verdict, refusal}

-- a refused step gives four zeros and the same position
abbrev pub refused_step : ℕ → ℕ → ℕ → Step
refused_step number place position =
    record {
      answer = Err (refusal number place);
      found = record { tag = 0; ty = 0; offset = record { 0 = 0 }; count = 0 };
      next = record { number = position };
    }

-- 0 with the record's file offset, its four numbers and the position plus one; 26 at a position at or above nindex
abbrev pub step_in : List ℕ → Section → ℕ → Step
step_in s section position =
    cond (ltb position section.nindex)
    (record {
      answer = Ok (record_place section position);
      found = record_at s section position;
      next = record { number = position + 1 };
    })
    (refused_step 26 0 position)

-- 2 to 13 and 28, then the step
abbrev pub step_as : Verdict → List ℕ → Section → ℕ → Step
step_as (Ok _) s section position = step_in s section position
step_as (Err e) s section position = refused_step e.number e.place position

unfoldable pub step_of : List ℕ → ℕ → ℕ → Step
step_of s which position = step_as (sound_check s) s (structure_of s which) position
