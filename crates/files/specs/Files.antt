-- Document 01, "Catalogue", groups (check 17): the file lists, with N the count of 1028, and the file names. The place is the
-- lowest missing tag, else the lowest tag whose count differs, unless said otherwise. The header is what it shows for each tag.
use Rattle.std.specs.Prelude.{ℕ, List, [], ◌∷◌, Bool, cond, not, ◌&&◌, ◌||◌, eqb}
use Rattle.format.specs.Verdicts.{check, both, Verdict, pass}
use Rattle.tags.specs.Tags.{Look, has, count_in}

-- a tag that is present has a count
unfoldable pub count_check : Look → ℕ → ℕ → Verdict
count_check look n tag = check (not (has look tag) || eqb (count_in look tag) n) 17 tag pass

unfoldable pub counts_check : Look → ℕ → List ℕ → Verdict
counts_check look n [] = pass
counts_check look n (tag ∷ rest) = both (count_check look n tag) (counts_check look n rest)

-- with N the count of 1028: each of 1030, 1033 to 1037, 1039, 1040, 1045, 1095 to 1097 that is present has count N
abbrev pub file_tags : List ℕ
file_tags =
    1030 ∷ 1033 ∷ 1034 ∷ 1035 ∷ 1036 ∷ 1037 ∷ 1039 ∷ 1040 ∷ 1045 ∷ 1095 ∷ 1096 ∷ 1097 ∷ []

abbrev pub files_check : Look → Verdict
files_check header = counts_check header (count_in header 1028) file_tags

-- if 1027 is present its count is N and none of 1116 to 1118 is present (place 1027 if broken)
unfoldable pub old_names_right : Look → ℕ → Bool
old_names_right header n =
    eqb (count_in header 1027) n && not (has header 1116) && not (has header 1117) && not (has header 1118)

-- tags of which each passes a test; else the first that does not is refused
unfoldable pub all_are : (ℕ → Bool) → List ℕ → Verdict
all_are ok [] = pass
all_are ok (tag ∷ rest) = check (ok tag) 17 tag (all_are ok rest)

-- tags that are all present
abbrev pub present_check : Look → List ℕ → Verdict
present_check look = all_are (has look)

-- tags that all have a count
abbrev pub counted_check : Look → ℕ → List ℕ → Verdict
counted_check look n = all_are (λ (tag : ℕ). eqb (count_in look tag) n)

-- otherwise those three are present and 1116 and 1117 have count N
unfoldable pub new_names_check : Look → ℕ → Verdict
new_names_check header n =
    check (has header 1116) 17 1116
    (check (has header 1117) 17 1117
    (check (has header 1118) 17 1118
    (check (eqb (count_in header 1116) n) 17 1116
    (check (eqb (count_in header 1117) n) 17 1117
    pass))))

unfoldable pub names_check : Look → ℕ → Verdict
names_check header n =
    cond (has header 1027) (check (old_names_right header n) 17 1027 pass) (new_names_check header n)

-- the file lists, then the file names
abbrev pub file_groups : Look → Verdict
file_groups header = both (files_check header) (names_check header (count_in header 1028))
