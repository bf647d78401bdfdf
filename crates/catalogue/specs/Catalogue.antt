-- Document 01, "Catalogue": each line is a tag, its type, its count rule and whether it is required, copied from 000.
-- Document 01 departs from 000 at the signature's 100 (may be absent) and at the counts of the signature's 1002, 1005,
-- 1011 and 1012 and of the header's 1047 and 1114 (any), request 2 at those of the header's 1004, 1005 and 1016 (any). The
-- house lines are document 01's own.
use Rattle.std.specs.Prelude.{ℕ, ◌≤◌, ◌<◌, ◌≡◌, List, [], ◌∷◌, ◌++◌, Bool, true, false, ◌&&◌, ◌||◌, get_or, eqb, leb, ltb}
use Rattle.std.specs.Prelude.{Option, Some, None}
use Rattle.catalogue.specs.declared.Line.{Line}
use Rattle.catalogue.specs.declared.Status.{Status}
use Rattle.catalogue.specs.declared.Status.TheVariants.{Optional, Required, RequiredFrom}
use Rattle.catalogue.specs.Words.{char, int8, int16, int32, string, bin, string_array, translated}

-- a line: a blank count is any (None), a printed one is exact; every status other than "Required" is optional
abbrev pub row : ℕ → ℕ → Option ℕ → Status → Line
row tag ty count status = record { tag = tag; ty = ty; count = count; status = status }

-- the signature: 62, 63, 100 and tables 1-5 to 1-7
unfoldable pub signature_lines : List Line
signature_lines =
    -- table 1-4
    row 62 bin (Some 16) Optional ∷
    row 63 bin (Some 16) Optional ∷
    row 100 string_array None Optional ∷
    -- table 1-5
    row 1000 int32 (Some 1) Required ∷
    -- table 1-7
    row 1002 bin None Optional ∷
    -- table 1-6
    row 1004 bin (Some 16) Required ∷
    -- table 1-7
    row 1005 bin None Optional ∷
    -- table 1-5
    row 1007 int32 (Some 1) Optional ∷
    -- table 1-6
    row 1010 string (Some 1) Optional ∷
    -- table 1-7
    row 1011 bin None Optional ∷
    row 1012 bin None Optional ∷
    []

-- the header: 62, 63, 100, tables 1-8 to 1-11 and 1-14, and house tags 20001 and 20002
unfoldable pub header_lines : List Line
header_lines =
    -- table 1-4
    row 62 bin (Some 16) Optional ∷
    row 63 bin (Some 16) Optional ∷
    row 100 string_array None Required ∷
    -- table 1-8
    row 1000 string (Some 1) Required ∷
    row 1001 string (Some 1) Required ∷
    row 1002 string (Some 1) Required ∷
    row 1004 translated None Required ∷
    row 1005 translated None Required ∷
    -- table 1-14
    row 1006 int32 (Some 1) Optional ∷
    row 1007 string (Some 1) Optional ∷
    -- table 1-8
    row 1009 int32 (Some 1) Required ∷
    row 1010 string (Some 1) Optional ∷
    row 1011 string (Some 1) Optional ∷
    row 1014 string (Some 1) Required ∷
    row 1016 translated None Required ∷
    row 1020 string (Some 1) Optional ∷
    row 1021 string (Some 1) Required ∷
    row 1022 string (Some 1) Required ∷
    -- table 1-9
    row 1023 string (Some 1) Optional ∷
    row 1024 string (Some 1) Optional ∷
    row 1025 string (Some 1) Optional ∷
    row 1026 string (Some 1) Optional ∷
    -- table 1-10
    row 1027 string_array None Optional ∷
    row 1028 int32 None Required ∷
    row 1030 int16 None Required ∷
    row 1033 int16 None Required ∷
    row 1034 int32 None Required ∷
    row 1035 string_array None Required ∷
    row 1036 string_array None Required ∷
    row 1037 int32 None Required ∷
    row 1039 string_array None Required ∷
    row 1040 string_array None Required ∷
    -- table 1-8
    row 1044 string (Some 1) Optional ∷
    -- table 1-14
    row 1045 int32 None Optional ∷
    -- table 1-8
    row 1046 int32 (Some 1) Optional ∷
    -- table 1-11
    row 1047 string_array None Required ∷
    row 1048 int32 None Required ∷
    row 1049 string_array None Required ∷
    row 1050 string_array None Required ∷
    row 1053 int32 None Optional ∷
    row 1054 string_array None Optional ∷
    row 1055 string_array None Optional ∷
    -- table 1-8
    row 1064 string (Some 1) Optional ∷
    -- table 1-14
    row 1080 int32 None Optional ∷
    row 1081 string_array None Optional ∷
    row 1082 string_array None Optional ∷
    -- table 1-9
    row 1085 string (Some 1) Optional ∷
    row 1086 string (Some 1) Optional ∷
    row 1087 string (Some 1) Optional ∷
    row 1088 string (Some 1) Optional ∷
    -- table 1-11
    row 1090 string_array None Optional ∷
    -- table 1-8
    row 1094 string (Some 1) Optional ∷
    -- table 1-10
    row 1095 int32 None Required ∷
    row 1096 int32 None Required ∷
    row 1097 string_array None Required ∷
    -- table 1-11
    row 1112 int32 None Required ∷
    row 1113 string_array None Required ∷
    row 1114 int32 None Optional ∷
    row 1115 string_array None Optional ∷
    -- table 1-10
    row 1116 int32 None Optional ∷
    row 1117 string_array None Optional ∷
    row 1118 string_array None Optional ∷
    -- table 1-14
    row 1122 string (Some 1) Optional ∷
    -- table 1-8
    row 1123 string (Some 1) Optional ∷
    row 1124 string (Some 1) Required ∷
    row 1125 string (Some 1) Required ∷
    row 1126 string (Some 1) Required ∷
    -- table 1-14
    row 1131 string (Some 1) Optional ∷
    row 1132 string (Some 1) Optional ∷
    -- house lines
    row 20001 bin None Required ∷
    row 20002 int32 (Some 1) (RequiredFrom 2) ∷
    []

-- the signature has 11 lines, the header 71
abbrev pub signature_count : ℕ
signature_count = 11

abbrev pub line_count : ℕ
line_count = 82

unfoldable pub catalogue : List Line
catalogue = signature_lines ++ header_lines

-- what stands past the end
abbrev pub no_line : Line
no_line = row 0 0 None Optional

-- line i, counted from 0
unfoldable pub line_at : ℕ → Line
line_at i = get_or catalogue i no_line

-- the first edition that has a line; 0 is before the first
abbrev pub first_edition : Status → ℕ
first_edition Optional = 0
first_edition Required = 1
first_edition (RequiredFrom edition) = edition

-- whether an edition, from 1 on, has a line
abbrev pub in_edition : ℕ → Line → Bool
in_edition edition line = leb (first_edition line.status) edition

-- whether its tag must be present
abbrev pub must_be_present : Status → Bool
must_be_present Optional = false
must_be_present Required = true
must_be_present (RequiredFrom edition) = true

abbrev pub is_required : Line → Bool
is_required line = must_be_present line.status

-- whether a count is the line's
abbrev pub is_count : Option ℕ → ℕ → Bool
is_count None count = true
is_count (Some exact) count = eqb exact count

-- whether a type and a count are the line's
unfoldable pub is_as_line : Line → ℕ → ℕ → Bool
is_as_line line ty count = eqb line.ty ty && is_count line.count count

-- tags strictly rising
unfoldable pub is_rising : List Line → Bool
is_rising [] = true
is_rising (a ∷ []) = true
is_rising (a ∷ b ∷ rest) = ltb a.tag b.tag && is_rising (b ∷ rest)

-- types 0, 5 and 10 upward are refused
unfoldable pub is_lawful_type : ℕ → Bool
is_lawful_type ty =
    eqb ty char || eqb ty int8 || eqb ty int16 || eqb ty int32 || eqb ty string || eqb ty bin || eqb ty string_array
    || eqb ty translated

abbrev pub is_lawful_line : Line → Bool
is_lawful_line line = is_lawful_type line.ty

-- a test at each line
unfoldable pub every : (Line → Bool) → List Line → Bool
every test [] = true
every test (a ∷ rest) = test a && every test rest

-- the one test of the whole table: tags strictly rising within each part, and every type lawful
unfoldable pub is_lawful_catalogue : Bool
is_lawful_catalogue = is_rising signature_lines && is_rising header_lines && every is_lawful_line catalogue

-- the rule at each line
pub record LawfulCatalogue : Type 0 where
  pub signature_rises : (i j : ℕ) → i < j → j < signature_count → (line_at i).tag < (line_at j).tag
  pub header_rises : (i j : ℕ) → signature_count ≤ i → i < j → j < line_count → (line_at i).tag < (line_at j).tag
  pub types_lawful : (i : ℕ) → i < line_count → is_lawful_type (line_at i).ty ≡ true
