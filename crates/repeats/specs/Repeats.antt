-- Document 01, "Header structure": within one structure no tag occurs twice (check 13).
use Rattle.std.specs.Prelude.{ℕ, zero, suc, ◌*◌, List, Bool, false, ◌||◌, eqb}
use Rattle.be.specs.Numbers.{be32_at}
use Rattle.format.specs.declared.section.Section.{Section}
use Rattle.format.specs.Places.{record_place}
use Rattle.among.specs.Among.{tag_among}

-- 13 | tag of an earlier record: one of the first i
unfoldable pub tag_before : List ℕ → Section → ℕ → ℕ → Bool
tag_before s section zero tag = false
tag_before s section (suc i) tag = eqb (be32_at s (record_place section i)) tag || tag_before s section i tag

-- record i of a structure has the tag of an earlier one
unfoldable pub repeated_in : List ℕ → Section → ℕ → Bool
repeated_in s section i = tag_before s section i (be32_at s (record_place section i))

-- record i of a row of records of 16 bytes has the tag of an earlier one
unfoldable pub repeated_among : List ℕ → ℕ → Bool
repeated_among s i = tag_among s i (be32_at s (16 * i))
