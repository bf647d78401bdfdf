-- Document 01, "Bench samples", P store of 8: one index record over a store of 8 bytes, and the verdict of checks 5 to 13.
use Rattle.std.specs.Prelude.{ℕ, List, [], ◌∷◌, ◌++◌, Bool, true, false, ◌&&◌, length, eqb, Ok, Err}
use Rattle.format.specs.declared.section.Structure.TheVariants.{Signature, Header}
use Rattle.structure.specs.Structure.{structure_check}
use Rattle.format.specs.Verdicts.{Verdict, pass, refusal}

-- a small number in four bytes
abbrev pub number : ℕ → List ℕ
number n = 0 ∷ 0 ∷ 0 ∷ n ∷ []

-- a structure of one index record and a store of 8 bytes
abbrev pub structure_of8 : ℕ → ℕ → ℕ → List ℕ → List ℕ
structure_of8 ty offset count store =
    0x8E ∷ 0xAD ∷ 0xE8 ∷ 0x01 ∷ 0 ∷ 0 ∷ 0 ∷ 0 ∷ number 1 ++ number 8
    ++ number 1 ++ number ty ++ number offset ++ number count
    ++ store

-- the verdict in the signature, and in the header
pub record Sample : Type 0 where
  pub ty : ℕ
  pub offset : ℕ
  pub count : ℕ
  pub store : List ℕ
  pub signature : Verdict
  pub header : Verdict

-- byte 7 is zero, and is not; bytes 3 and 7 are
abbrev pub ended : List ℕ
ended = 1 ∷ 2 ∷ 3 ∷ 4 ∷ 5 ∷ 6 ∷ 7 ∷ 0 ∷ []

abbrev pub not_ended : List ℕ
not_ended = 1 ∷ 2 ∷ 3 ∷ 4 ∷ 5 ∷ 6 ∷ 7 ∷ 8 ∷ []

abbrev pub two_strings : List ℕ
two_strings = 1 ∷ 2 ∷ 3 ∷ 0 ∷ 5 ∷ 6 ∷ 7 ∷ 0 ∷ []

-- int32 at 4, count 1, is right; count 2 is 12; at 2 is 11; a string at 7 is right when byte 7 is zero, else 12; bin at 8 is 12.
-- Request 2: two translated strings are right in the header, and 10 in the signature; three of them are not in the store
abbrev pub samples : List Sample
samples =
    record { ty = 4; offset = 4; count = 1; store = ended; signature = pass; header = pass }
    ∷ record { ty = 4; offset = 4; count = 2; store = ended; signature = Err (refusal 12 16); header = Err (refusal 12 16) }
    ∷ record { ty = 4; offset = 2; count = 1; store = ended; signature = Err (refusal 11 16); header = Err (refusal 11 16) }
    ∷ record { ty = 6; offset = 7; count = 1; store = ended; signature = pass; header = pass }
    ∷ record { ty = 6; offset = 7; count = 1; store = not_ended; signature = Err (refusal 12 16); header = Err (refusal 12 16) }
    ∷ record { ty = 7; offset = 8; count = 1; store = ended; signature = Err (refusal 12 16); header = Err (refusal 12 16) }
    ∷ record { ty = 9; offset = 0; count = 1; store = two_strings; signature = pass; header = pass }
    ∷ record { ty = 9; offset = 0; count = 2; store = two_strings; signature = Err (refusal 10 16); header = pass }
    ∷ record { ty = 9; offset = 0; count = 3; store = two_strings; signature = Err (refusal 10 16); header = Err (refusal 12 16) }
    ∷ record { ty = 9; offset = 0; count = 0; store = two_strings; signature = Err (refusal 10 16); header = Err (refusal 10 16) }
    ∷ record { ty = 6; offset = 0; count = 2; store = two_strings; signature = Err (refusal 10 16); header = Err (refusal 10 16) }
    ∷ []

abbrev pub is_verdict : Verdict → Verdict → Bool
is_verdict (Ok _) (Ok _) = true
is_verdict (Ok _) (Err e) = false
is_verdict (Err e) (Ok _) = false
is_verdict (Err e) (Err e2) = eqb e.number e2.number && eqb e.place e2.place

abbrev pub is_right : Sample → Bool
is_right sample =
    let s = structure_of8 sample.ty sample.offset sample.count sample.store in
    is_verdict (structure_check Signature s (length s) 0) sample.signature
    && is_verdict (structure_check Header s (length s) 0) sample.header
