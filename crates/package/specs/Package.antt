-- Document 01, checks 2 to 13 over a whole package, and request 5: 28 between its two structures. The length is a number of its own.
use Rattle.std.specs.Prelude.{ℕ, List, cond, length, eqb, leb, Result, Ok, Err}
use Rattle.format.specs.declared.section.Section.{Section}
use Rattle.format.specs.declared.section.Structure.{Structure}
use Rattle.format.specs.declared.section.Structure.TheVariants.{Signature, Header}
use Rattle.format.specs.Sizes.{package_limit, lead_size}
use Rattle.format.specs.Places.{section_end, align_up}
use Rattle.format.specs.Lead.{lead_of}
use Rattle.format.specs.Verdicts.{check, both, Verdict, pass}
use Rattle.structure.specs.Structure.{section_at, structure_check}
use Rattle.gap.specs.Gap.{gap_check}
use Rattle.package.specs.declared.Opened.{Opened}
use Rattle.package.specs.Lead.{lead_check}
use Rattle.format.specs.declared.verdict.Refusal.{Refusal}

-- 2 | package over 65,536 bytes | 0
-- 3 | under 96 bytes | the length
unfoldable pub size_check : ℕ → Verdict
size_check len =
    check (leb len package_limit) 2 0
    (check (leb lead_size len) 3 len
    pass)

-- the signature starts at 96, the header at H, the first multiple of 8 at or after the signature's end
abbrev pub signature_at : List ℕ → Section
signature_at s = section_at s lead_size

abbrev pub header_start : Section → ℕ
header_start signature = align_up 8 (section_end signature)

abbrev pub header_at : List ℕ → Section
header_at s = section_at s (header_start (signature_at s))

-- 28 for the bytes between the signature's end and H
abbrev pub gap_in : List ℕ → ℕ → Verdict
gap_in s len = gap_check s len (section_end (signature_at s)) (header_start (signature_at s))

-- 5 to 13 for the signature, 28, then 5 to 13 for the header
unfoldable pub structures_check : List ℕ → ℕ → Verdict
structures_check s len =
    both (structure_check Signature s len lead_size)
    (both (gap_in s len)
    (structure_check Header s len (header_start (signature_at s))))

-- 2 to 13 and 28
unfoldable pub package_check : List ℕ → ℕ → Verdict
package_check s len = both (size_check len) (both (lead_check (lead_of s)) (structures_check s len))

abbrev pub sound_check : List ℕ → Verdict
sound_check s = package_check s (length s)

-- structure 0 is the signature, any other number the header
abbrev pub structure_for : ℕ → Structure
structure_for which = cond (eqb which 0) Signature Header

abbrev pub section_for : ℕ → Section → Section → Section
section_for which signature header = cond (eqb which 0) signature header

abbrev pub structure_of : List ℕ → ℕ → Section
structure_of s which = section_for which (signature_at s) (header_at s)

-- a package that passed 2 to 13 and 28, by its two structures
abbrev pub opened_as : Verdict → Section → Section → Result Opened Refusal
opened_as (Ok _) signature header = Ok (record { signature = signature; header = header })
opened_as (Err e) signature header = Err e

abbrev pub structures_opened : List ℕ → ℕ → Result Opened Refusal
structures_opened s len = opened_as (structures_check s len) (signature_at s) (header_at s)

unfoldable pub opened : List ℕ → Result Opened Refusal
opened s = opened_as (sound_check s) (signature_at s) (header_at s)

-- the paper's number and place: 0 and 0 where all checks passed
abbrev pub opened_number : Result Opened Refusal → ℕ
opened_number (Ok structures) = 0
opened_number (Err e) = e.number

abbrev pub opened_place : Result Opened Refusal → ℕ
opened_place (Ok structures) = 0
opened_place (Err e) = e.place
