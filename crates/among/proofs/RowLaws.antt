-- The records of a structure as a row of records: the package from its first record on.
use Prim.Native.Nat.{ℕ, ◌+◌, ◌*◌}
use mathlib.Core.Path.{◌≡◌}
use mathlib.Core.List.{List}
use lib.ListN.{length, take, drop, length-drop}
use lib.Seq.{take_all}
use native.Mathlib.Omega.{arith}
use Rattle.be.specs.Numbers.{be32_at}
use Rattle.be.proofs.ByteLaws.{be32_drop}
use Rattle.format.specs.declared.section.Section.{Section}
use Rattle.format.specs.Places.{record_place}

pub row : (s : List ℕ) (section : Section) {at : ℕ} {part : List ℕ} → at ≡ record_place section 0
    → part ≡ take (length s) (drop at s) → (k : ℕ) → be32_at part (16 * k) ≡ be32_at s (record_place section k)
row s section {at} d p k =
    let n = length-drop at s in
    let j : record_place section 0 + 16 * k ≡ record_place section k = omega arith in
    rw (p, take_all (length s) (drop at s) (omega arith), d, be32_drop s (record_place section 0) (16 * k), j)
