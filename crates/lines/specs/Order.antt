-- Document 01: "14 and 15 run per line in tag order, signature first". What that comes to where tags rise, and that they do in
-- every edition.
use Rattle.std.specs.Prelude.{ℕ, ◌<◌, ◌≡◌, ◌⊎◌, List, true, Err}
use Rattle.entries.specs.Types.{element_size, is_lawful}
use Rattle.catalogue.specs.declared.Line.{Line}
use Rattle.catalogue.specs.Catalogue.{line_at, line_count, is_lawful_type}
use Rattle.catalogue.specs.Lists.{Listed, Rising, signature_of, header_of}
use Rattle.tags.specs.Tags.{Look}
use Rattle.lines.specs.Lines.{line_check, lines_check}
use Rattle.format.specs.Verdicts.{pass, refusal}

-- a refusal in a part: one of its lines has the tag, and every line of the part with a lower tag passes
pub record InPart (lines : List Line) (look : Look) (number tag : ℕ) : Type 0 where
  pub line : Line
  pub listed : Listed line lines
  pub tagged : line.tag ≡ tag
  pub refused : line_check look line ≡ Err (refusal number tag)
  pub lower : (other : Line) → Listed other lines → other.tag < tag → line_check look other ≡ pass

-- a refusal is in the signature, or every line of the signature passes and it is in the header
abbrev pub LinesInOrder : Type 0
LinesInOrder =
    (ofSignature ofHeader : List Line) → Rising ofSignature → Rising ofHeader
    → (signature header : Look) (number tag : ℕ) → lines_check ofSignature ofHeader signature header ≡ Err (refusal number tag)
    → InPart ofSignature signature number tag
    ⊎ (((line : Line) → Listed line ofSignature → line_check signature line ≡ pass) × InPart ofHeader header number tag)

abbrev pub EditionsRise : Type 0
EditionsRise = (edition : ℕ) → Rising (signature_of edition) × Rising (header_of edition)

-- the types that the catalogue's rule calls lawful are those of the header structure, and every line's type is one of them
abbrev pub TypesAlike : Type 0
TypesAlike = (ty : ℕ) → is_lawful_type ty ≡ is_lawful (element_size ty)

abbrev pub LinesLawful : Type 0
LinesLawful = (i : ℕ) → i < line_count → is_lawful (element_size (line_at i).ty) ≡ true
