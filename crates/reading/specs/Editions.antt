-- Document 01 and request 7: an edition is its catalogue, the signature's lines and the header's, and its set of kinds.
use Rattle.std.specs.Prelude.{ℕ, List, [], ◌∷◌, Bool, false, ◌||◌, eqb}
use Rattle.catalogue.specs.declared.Line.{Line}
use Rattle.catalogue.specs.Lists.{signature_of, header_of}
use Rattle.book.specs.Kinds.{Kinds, kinds_of}

pub record Edition : Type 0 where
  pub signature : List Line
  pub header : List Line
  pub kinds : Kinds

-- the editions by their numbers: the lines of the catalogue that each has, and the kinds that it knows
abbrev pub edition_of : ℕ → Edition
edition_of edition = record { signature = signature_of edition; header = header_of edition; kinds = kinds_of edition }

-- whether a tag has a line
unfoldable pub has_line : ℕ → List Line → Bool
has_line tag [] = false
has_line tag (line ∷ rest) = eqb line.tag tag || has_line tag rest

-- the batch weight, tag 20002
abbrev pub batch_tag : ℕ
batch_tag = 20002

abbrev pub has_batch : Edition → Bool
has_batch edition = has_line batch_tag edition.header
