-- Document 01, "Catalogue", checks 14 and 15: per line in tag order, signature first, 14 before 15 on each line. A structure
-- is what it shows for each tag.
use Rattle.std.specs.Prelude.{List, [], ◌∷◌, not, Option, Some, None}
use Rattle.format.specs.Verdicts.{check, both, Verdict, pass}
use Rattle.catalogue.specs.declared.Line.{Line}
use Rattle.catalogue.specs.Catalogue.{is_required, is_as_line}
use Rattle.tags.specs.Tags.{Look}
use Rattle.format.specs.declared.records.IndexRecord.{IndexRecord}

-- 14 | required tag absent | tag
-- 15 | type or count not the line's | tag
abbrev pub line_check_as : Line → Option IndexRecord → Verdict
line_check_as line None = check (not (is_required line)) 14 line.tag pass
line_check_as line (Some e) = check (is_as_line line e.ty e.count) 15 line.tag pass

abbrev pub line_check : Look → Line → Verdict
line_check look line = line_check_as line (look line.tag)

-- 14 and 15 for a list of lines, in its order
unfoldable pub lines_of : Look → List Line → Verdict
lines_of look [] = pass
lines_of look (line ∷ rest) = both (line_check look line) (lines_of look rest)

-- the signature's lines, then the header's
unfoldable pub lines_check : List Line → List Line → Look → Look → Verdict
lines_check ofSignature ofHeader signature header = both (lines_of signature ofSignature) (lines_of header ofHeader)
