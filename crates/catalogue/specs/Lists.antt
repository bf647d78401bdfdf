-- Lists of lines, as an edition has them: whether a list has a line, tags strictly rising, a list that keeps another's lines;
-- and the lines that an edition has in each part of the catalogue.
use Rattle.std.specs.Prelude.{ℕ, ◌<◌, ◌≡◌, ◌⊎◌, List, [], ◌∷◌, cond}
use Rattle.catalogue.specs.declared.Line.{Line}
use Rattle.catalogue.specs.declared.Status.TheVariants.{Optional, Required}
use Rattle.catalogue.specs.Catalogue.{signature_lines, header_lines, in_edition, is_required}

abbrev pub Listed : Line → List Line → Type 0
Listed line [] = ⊥
Listed line (other ∷ rest) = (line ≡ other) ⊎ Listed line rest

-- tags strictly rising, the first above a given one
abbrev pub Above : ℕ → List Line → Type 0
Above tag [] = Unit
Above tag (line ∷ rest) = (tag < line.tag) × Above line.tag rest

-- tags strictly rising
abbrev pub Rising : List Line → Type 0
Rising [] = Unit
Rising (line ∷ rest) = Above line.tag rest

-- a later list keeps an earlier one's lines unchanged
abbrev pub KeepsLines : List Line → List Line → Type 0
KeepsLines earlier later = (line : Line) → Listed line earlier → Listed line later

-- a line as an edition has it: required or not, without the edition with which it begins
abbrev pub had_line : Line → Line
had_line line =
    record { tag = line.tag; ty = line.ty; count = line.count; status = cond (is_required line) Required Optional }

-- the lines of a part of the catalogue that an edition has, in its order
unfoldable pub lines_had : ℕ → List Line → List Line
lines_had edition [] = []
lines_had edition (a ∷ rest) =
    cond (in_edition edition a) (had_line a ∷ lines_had edition rest) (lines_had edition rest)

abbrev pub signature_of : ℕ → List Line
signature_of edition = lines_had edition signature_lines

abbrev pub header_of : ℕ → List Line
header_of edition = lines_had edition header_lines
