-- Request 2, the last group of check 17: a header's index, how many strings tag 100 has, and the verdict.
use Rattle.std.specs.Prelude.{ℕ, List, [], ◌∷◌, ◌++◌, Bool, length, replicate, Err}
use Rattle.format.specs.declared.section.Section.{Section}
use Rattle.locales.specs.Locales.{locales_check}
use Rattle.samples.specs.Stores.{number, is_verdict}
use Rattle.format.specs.Verdicts.{Verdict, pass, refusal}

-- what the group asks of an index record
pub record Strings : Type 0 where
  pub tag : ℕ
  pub ty : ℕ
  pub count : ℕ

pub record LocaleSample : Type 0 where
  pub index : List Strings
  pub most : ℕ
  pub verdict : Verdict

-- two and three translated strings of tag 7, three of tag 5, and a string array of three
abbrev pub two : Strings
two = record { tag = 7; ty = 9; count = 2 }

abbrev pub three : Strings
three = record { tag = 7; ty = 9; count = 3 }

abbrev pub lower : Strings
lower = record { tag = 5; ty = 9; count = 3 }

abbrev pub array : Strings
array = record { tag = 6; ty = 8; count = 3 }

-- as many as tag 100 are right, one more is 17; a string array may have any number; the place is the first offending tag in
-- index order, whichever is lower
abbrev pub locales : List LocaleSample
locales =
    record { index = two ∷ []; most = 2; verdict = pass }
    ∷ record { index = three ∷ []; most = 2; verdict = Err (refusal 17 7) }
    ∷ record { index = array ∷ two ∷ []; most = 2; verdict = pass }
    ∷ record { index = array ∷ three ∷ lower ∷ []; most = 2; verdict = Err (refusal 17 7) }
    ∷ record { index = lower ∷ three ∷ []; most = 2; verdict = Err (refusal 17 5) }
    ∷ record { index = lower ∷ three ∷ []; most = 3; verdict = pass }
    ∷ []

abbrev pub index_bytes : List Strings → List ℕ
index_bytes [] = []
index_bytes (e ∷ rest) = number e.tag ++ number e.ty ++ number 0 ++ number e.count ++ index_bytes rest

abbrev pub header_of : List Strings → Section
header_of index = record { start = record { 0 = 0 }; nindex = length index; hsize = 0 }

abbrev pub locale_right : LocaleSample → Bool
locale_right sample =
    is_verdict
    (locales_check (replicate 16 0 ++ index_bytes sample.index) (header_of sample.index) sample.most)
    sample.verdict
