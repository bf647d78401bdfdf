-- Request 5, check 28: gaps of each length, gaps that a package of so many bytes doesn't have whole, and the smallest package that is
-- written with bytes of its gap changed, or cut inside it.
use Rattle.std.specs.Prelude.{ℕ, ◌-◌, List, [], ◌∷◌, ◌++◌, Bool, set, take, replicate, Err}
use Rattle.gap.specs.Gap.{gap_check}
use Rattle.package.specs.Package.{sound_check}
use Rattle.samples.specs.Stores.{is_verdict}
use Rattle.samples.specs.Written.{smallest}
use Rattle.format.specs.Verdicts.{Verdict, pass, refusal}

-- a signature that ends n bytes before H, which is 8; no byte outside the gap is zero
abbrev pub gap_of : ℕ → List ℕ
gap_of n = replicate (8 - n) 0xFF ++ replicate n 0 ++ 0xFF ∷ []

-- a gap of n bytes, as it is and with one byte of it changed, in a package of len bytes
pub record GapSample : Type 0 where
  pub n : ℕ
  pub bytes : List ℕ
  pub len : ℕ
  pub verdict : Verdict

abbrev pub strays : ℕ → ℕ → ℕ → GapSample
strays n place byte = record { n = n; bytes = set (gap_of n) place byte; len = 9; verdict = Err (refusal 28 place) }

-- each length; the first byte, the last and one between; two of them; the byte before the gap and the one behind it; the package
-- ends inside the gap, before and behind the byte that isn't zero, and where the gap starts
abbrev pub gaps : List GapSample
gaps =
    record { n = 0; bytes = gap_of 0; len = 9; verdict = pass }
    ∷ record { n = 1; bytes = gap_of 1; len = 9; verdict = pass }
    ∷ record { n = 2; bytes = gap_of 2; len = 9; verdict = pass }
    ∷ record { n = 3; bytes = gap_of 3; len = 9; verdict = pass }
    ∷ record { n = 4; bytes = gap_of 4; len = 9; verdict = pass }
    ∷ record { n = 5; bytes = gap_of 5; len = 9; verdict = pass }
    ∷ record { n = 6; bytes = gap_of 6; len = 9; verdict = pass }
    ∷ record { n = 7; bytes = gap_of 7; len = 9; verdict = pass }
    ∷ strays 1 7 1
    ∷ strays 2 6 1 ∷ strays 2 7 1
    ∷ strays 3 5 0x80 ∷ strays 3 6 0x80 ∷ strays 3 7 0x80
    ∷ strays 4 4 0xFF ∷ strays 4 7 0xFF
    ∷ strays 5 3 1 ∷ strays 5 7 1
    ∷ strays 6 2 1 ∷ strays 6 7 1
    ∷ strays 7 1 1 ∷ strays 7 4 1 ∷ strays 7 7 1
    ∷ record { n = 7; bytes = set (set (gap_of 7) 6 1) 3 2; len = 9; verdict = Err (refusal 28 3) }
    ∷ record { n = 4; bytes = set (set (gap_of 4) 3 7) 8 7; len = 9; verdict = pass }
    ∷ record { n = 7; bytes = set (gap_of 7) 3 1; len = 5; verdict = Err (refusal 28 3) }
    ∷ record { n = 7; bytes = set (gap_of 7) 3 1; len = 4; verdict = Err (refusal 28 3) }
    ∷ record { n = 7; bytes = set (gap_of 7) 3 1; len = 3; verdict = pass }
    ∷ record { n = 7; bytes = set (gap_of 7) 3 1; len = 1; verdict = pass }
    ∷ []

abbrev pub gap_right : GapSample → Bool
gap_right sample = is_verdict (gap_check sample.bytes sample.len (8 - sample.n) 8) sample.verdict

-- a package, and the verdict of 2 to 13 and 28
pub record PackageSample : Type 0 where
  pub bytes : List ℕ
  pub verdict : Verdict

-- the gap of the smallest package is 164 to 167. Each byte of it; the byte before it, which is the digest's; the one behind it, the
-- header's first; 28 before the header's 6, and after the signature's 9; cut where the gap starts, inside it and where it ends,
-- without such a byte, behind it and before it
abbrev pub packages : List PackageSample
packages =
    record { bytes = smallest; verdict = pass }
    ∷ record { bytes = set smallest 164 1; verdict = Err (refusal 28 164) }
    ∷ record { bytes = set smallest 165 0x80; verdict = Err (refusal 28 165) }
    ∷ record { bytes = set smallest 166 0xFF; verdict = Err (refusal 28 166) }
    ∷ record { bytes = set smallest 167 1; verdict = Err (refusal 28 167) }
    ∷ record { bytes = set smallest 163 0; verdict = pass }
    ∷ record { bytes = set smallest 168 0; verdict = Err (refusal 6 168) }
    ∷ record { bytes = set (set smallest 168 0) 167 1; verdict = Err (refusal 28 167) }
    ∷ record { bytes = set (set smallest 119 0) 164 1; verdict = Err (refusal 9 112) }
    ∷ record { bytes = take 164 smallest; verdict = Err (refusal 5 168) }
    ∷ record { bytes = take 166 smallest; verdict = Err (refusal 5 168) }
    ∷ record { bytes = take 168 smallest; verdict = Err (refusal 5 168) }
    ∷ record { bytes = take 166 (set smallest 165 1); verdict = Err (refusal 28 165) }
    ∷ record { bytes = take 168 (set smallest 167 1); verdict = Err (refusal 28 167) }
    ∷ record { bytes = take 183 (set smallest 167 1); verdict = Err (refusal 28 167) }
    ∷ record { bytes = take 166 (set smallest 166 1); verdict = Err (refusal 5 168) }
    ∷ []

abbrev pub package_right : PackageSample → Bool
package_right sample = is_verdict (sound_check sample.bytes) sample.verdict
