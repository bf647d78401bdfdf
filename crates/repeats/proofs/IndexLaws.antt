-- The first record of a structure that repeats a tag is that of its row of records (searched).
use Prim.Native.Nat.{ℕ, zero, suc, ◌*◌}
use mathlib.Core.Path.{◌≡◌, refl, ◌∙◌}
use mathlib.Core.List.{List}
use lib.ListN.{length, take, drop}
use Rattle.be.specs.Numbers.{be32_at}
use Rattle.format.specs.declared.section.Section.{Section}
use Rattle.format.specs.Places.{record_place}
use Rattle.among.specs.Among.{tag_among, first_from}
use Rattle.among.proofs.FirstLaws.{alike}
use Rattle.among.proofs.RowLaws.{row}
use Rattle.repeats.specs.Repeats.{tag_before, repeated_in, repeated_among}

module _ (s part : List ℕ) (section : Section) (same : (k : ℕ) → be32_at part (16 * k) ≡ be32_at s (record_place section k)) where
  among_before : (tag i : ℕ) → tag_among part i tag ≡ tag_before s section i tag
  unfolding tag_before tag_among
  among_before tag zero = refl
  among_before tag (suc i) = rw (same i, among_before tag i)

  repeated_in_lem : (i : ℕ) → repeated_among part i ≡ repeated_in s section i
  unfolding repeated_among repeated_in
  repeated_in_lem i = rw (same i) (among_before (be32_at s (record_place section i)) i)

pub searched : (s : List ℕ) (section : Section) {at r : ℕ} {part : List ℕ} → at ≡ record_place section 0
    → part ≡ take (length s) (drop at s) → r ≡ first_from (repeated_among part) section.nindex 0
    → r ≡ first_from (repeated_in s section) section.nindex 0
searched s section {part = part} d p h =
    h ∙ alike (repeated_among part) (repeated_in s section) (repeated_in_lem s part section (row s section d p)) section.nindex 0
