-- Document 01, checks 14 to 18 over a package's two structures. They ask of a structure what it shows for a tag, and of
-- the header's index how many strings are translated.
use Rattle.std.specs.Prelude.{ℕ, ◌-◌, List, eqb}
use Rattle.format.specs.declared.section.Section.{Section}
use Rattle.format.specs.Verdicts.{check, both, Verdict, pass}
use Rattle.index.specs.Lookup.{tagged_in}
use Rattle.catalogue.specs.declared.Line.{Line}
use Rattle.tags.specs.Tags.{Look, number_in}
use Rattle.lines.specs.Lines.{lines_check}
use Rattle.groups.specs.Groups.{groups_check}
use Rattle.texts.specs.Texts.{texts_check}

-- 16 | the signature's 1000 isn't length − H | 1000
unfoldable pub size_tag_check : List ℕ → ℕ → Section → Section → Look → Verdict
size_tag_check s len signature header look =
    check (eqb (number_in s signature look 1000) (len - header.start.0)) 16 1000 pass

-- 14 to 18 with the lines of signature and header, by what the two show
unfoldable pub rules_over : List Line → List Line → List ℕ → ℕ → Section → Section → Look → Look → Verdict
rules_over ofSignature ofHeader s len signature header inSignature inHeader =
    both (lines_check ofSignature ofHeader inSignature inHeader)
    (both (size_tag_check s len signature header inSignature)
    (both (groups_check s header inSignature inHeader)
    (texts_check s header inHeader)))

-- 14 to 18, by the records of the two indexes
abbrev pub rules_check : List Line → List Line → List ℕ → ℕ → Section → Section → Verdict
rules_check ofSignature ofHeader s len signature header =
    rules_over ofSignature ofHeader s len signature header (tagged_in s signature) (tagged_in s header)
