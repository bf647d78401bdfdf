-- Check 13: an index of these tags, and the first record whose tag an earlier one has; the number of records where there is none.
use Rattle.std.specs.Prelude.{ℕ, ◌+◌, ◌*◌, List, [], ◌∷◌, ◌++◌, Bool, cond, ◌&&◌, length, eqb, Err}
use Rattle.format.specs.declared.section.Structure.TheVariants.{Signature, Header}
use Rattle.put.specs.Puts.{bytes_of}
use Rattle.among.specs.Among.{first_from}
use Rattle.repeats.specs.Repeats.{repeated_in, repeated_among}
use Rattle.structure.specs.Structure.{structure_check, section_at}
use Rattle.samples.specs.Stores.{number, is_verdict}
use Rattle.format.specs.Verdicts.{Verdict, pass, refusal}

pub record TagsSample : Type 0 where
  pub tags : List ℕ
  pub first : ℕ

-- rising tags; the first tag again, at once and as the last; falling tags, and the highest and the lowest again; the first of
-- two that occur again; tags that end alike; tag 0
abbrev pub tags : List TagsSample
tags =
    record { tags = 1000 ∷ []; first = 1 }
    ∷ record { tags = 1000 ∷ 1001 ∷ 1002 ∷ 1003 ∷ 1004 ∷ []; first = 5 }
    ∷ record { tags = 1000 ∷ 1000 ∷ []; first = 1 }
    ∷ record { tags = 1000 ∷ 1001 ∷ 1002 ∷ 1003 ∷ 1000 ∷ []; first = 4 }
    ∷ record { tags = 1004 ∷ 1003 ∷ 1002 ∷ 1001 ∷ 1000 ∷ []; first = 5 }
    ∷ record { tags = 1004 ∷ 1003 ∷ 1002 ∷ 1001 ∷ 1004 ∷ []; first = 4 }
    ∷ record { tags = 1004 ∷ 1003 ∷ 1002 ∷ 1002 ∷ []; first = 3 }
    ∷ record { tags = 1001 ∷ 1000 ∷ 1001 ∷ []; first = 2 }
    ∷ record { tags = 1000 ∷ 1001 ∷ 1001 ∷ 1000 ∷ []; first = 2 }
    ∷ record { tags = 5096 ∷ 1000 ∷ 1256 ∷ 66536 ∷ []; first = 4 }
    ∷ record { tags = 5096 ∷ 1000 ∷ 5096 ∷ []; first = 2 }
    ∷ record { tags = 0 ∷ 1 ∷ 0 ∷ []; first = 2 }
    ∷ []

-- a char at the front of the store for each tag
abbrev pub index_of : List ℕ → List ℕ
index_of [] = []
index_of (tag ∷ rest) = bytes_of tag ++ number 1 ++ number 0 ++ number 1 ++ index_of rest

-- a structure of them, and a store of one byte
abbrev pub structure_of : List ℕ → List ℕ
structure_of tags =
    0x8E ∷ 0xAD ∷ 0xE8 ∷ 0x01 ∷ 0 ∷ 0 ∷ 0 ∷ 0 ∷ number (length tags) ++ number 1
    ++ index_of tags
    ++ 0 ∷ []

abbrev pub verdict_of : TagsSample → Verdict
verdict_of sample =
    cond (eqb sample.first (length sample.tags)) pass (Err (refusal 13 (16 + 16 * sample.first)))

-- the record in a row of records and in an index, and the verdict of 5 to 13 in both structures
abbrev pub tags_right : TagsSample → Bool
tags_right sample =
    let n = length sample.tags in
    let s = structure_of sample.tags in
    eqb (first_from (repeated_among (index_of sample.tags)) n 0) sample.first
    && (eqb (first_from (repeated_in s (section_at s 0)) n 0) sample.first
    && (is_verdict (structure_check Signature s (length s) 0) (verdict_of sample)
    && is_verdict (structure_check Header s (length s) 0) (verdict_of sample)))
