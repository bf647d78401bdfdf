-- Document 01, "Book": the doses of a book. A lot is read where the kinds have one; an edition that accepts a book knows its
-- weighed kinds, so all kinds serve every edition.
use Rattle.std.specs.Prelude.{ℕ, ◌+◌, List, [], ◌∷◌, cond, length, Option, Some, None, Result, Ok, Err}
use Rattle.book.specs.declared.dose.Dose.{Dose}
use Rattle.book.specs.declared.Weighed.{Weighed}
use Rattle.book.specs.Kinds.{is_weighed, Kinds, kinds_of, is_known, last_edition}
use Rattle.book.specs.Book.{kind_at, places, dose_by, dose_at, book_check}
use Rattle.format.specs.Verdicts.{Verdict}
use Rattle.format.specs.declared.verdict.Refusal.{Refusal}

-- the dose of the record at a place, where it is weighed
abbrev pub dose_of : List ℕ → ℕ → Option Dose
dose_of b at = cond (is_weighed (kind_at b at)) (Some (dose_at b at)) None

-- the places of the weighed records among some places
unfoldable pub weighed_of : List ℕ → List ℕ → List ℕ
weighed_of b [] = []
weighed_of b (at ∷ rest) = cond (is_weighed (kind_at b at)) (at ∷ weighed_of b rest) (weighed_of b rest)

-- the (oxide, milligrams, lot) of weighed records, in order, by a set of kinds
unfoldable pub doses_by : Kinds → List ℕ → List ℕ → List Dose
doses_by kinds b [] = []
doses_by kinds b (at ∷ rest) =
    cond (is_weighed (kind_at b at)) (dose_by kinds b at ∷ doses_by kinds b rest) (doses_by kinds b rest)

abbrev pub doses_in : Kinds → List ℕ → List Dose
doses_in kinds b = doses_by kinds b (places b)

-- and by all kinds
abbrev pub doses_of : List ℕ → List ℕ → List Dose
doses_of b at = doses_by (kinds_of last_edition) b at

abbrev pub doses : List ℕ → List Dose
doses b = doses_of b (places b)

unfoldable pub sum_of : List Dose → ℕ
sum_of [] = 0
sum_of (dose ∷ rest) = dose.milligrams.0 + sum_of rest

-- a book that passed 19 to 22, by the number and the sum of its doses
abbrev pub weighed_as : Verdict → ℕ → ℕ → Result Weighed Refusal
weighed_as (Ok _) count sum = Ok (record { count = count; sum = sum })
weighed_as (Err e) count sum = Err e

unfoldable pub weighed : ℕ → List ℕ → Result Weighed Refusal
weighed edition b = weighed_as (book_check (is_known edition) b) (length (doses b)) (sum_of (doses b))
