-- What a structure that passed its checks is.
use Prim.Native.Nat.{ℕ, ◌<◌}
use mathlib.Core.Path.{◌≡◌, refl}
use mathlib.Core.List.{List}
use native.Mathlib.Omega.{arith}
use borrow.Author.Tests.{leb-true, eqb-true}
use Rattle.format.specs.declared.section.Section.{Section}
use Rattle.format.specs.declared.section.Structure.{Structure}
use Rattle.format.specs.declared.records.HeaderRecord.{HeaderRecord}
use Rattle.format.specs.Records.{header_record_at}
use Rattle.format.proofs.VerdictLaws.{inverted, both_inverted}
use Rattle.format.proofs.FirstLaws.{run_passes}
use Rattle.entries.specs.Entries.{record_check}
use Rattle.structure.specs.Structure.{section_at, header_check, structure_check}
use Rattle.structure.specs.Sound.{SoundHeader}
use Rattle.structure.specs.Checked.{checked_as}
use Rattle.std.specs.Prelude.{Ok, Err}
use Rattle.format.specs.Verdicts.{Verdict, pass, refusal}

-- what checks 5 to 8 say of a header record
pub header_sound : (len start : ℕ) (h : HeaderRecord) → header_check len start h ≡ pass → SoundHeader len start h
unfolding header_check
header_sound len start h k =
    let k5 = inverted _ _ _ _ k in
    let k6 = inverted _ _ _ _ k5.1 in
    let k6' = inverted _ _ _ _ k6.1 in
    let k7 = inverted _ _ _ _ k6'.1 in
    let k7' = inverted _ _ _ _ k7.1 in
    let k8 = inverted _ _ _ _ k7'.1 in
    record {
      room = leb-true _ _ k5.0;
      magic = eqb-true _ _ k6.0;
      reserved = eqb-true _ _ k6'.0;
      some = leb-true _ _ k7.0;
      within = leb-true _ _ k7'.0;
      fits = leb-true _ _ k8.0;
    }

-- a structure that passed: its header record, and each of its records
module _ (structure : Structure) (s : List ℕ) (len start : ℕ) (h : structure_check structure s len start ≡ pass) where
  pub structure_header : SoundHeader len start (header_record_at s start)
  unfolding structure_check
  structure_header = header_sound len start (header_record_at s start) (both_inverted _ _ h).0

  pub structure_record : (k : ℕ) → k < (section_at s start).nindex → record_check structure s (section_at s start) k ≡ pass
  unfolding structure_check
  structure_record k l = (run_passes _ _ 0).0 (both_inverted _ _ h).1 k (omega arith) (omega arith)

-- what a checked structure says of its verdict
pub checked_sound : (v : Verdict) (section : Section) {section' : Section} → checked_as v section ≡ Ok section'
    → (v ≡ pass) × (section ≡ section')
checked_sound (Ok _) section h = (refl, cc)
checked_sound (Err e) section h = let z : ◌≡◌ {A = ℕ} 0 1 = cc in absurd (omega arith)

pub checked_unsound : (v : Verdict) (section : Section) {number place : ℕ} → checked_as v section ≡ Err (refusal number place)
    → v ≡ Err (refusal number place)
checked_unsound (Ok _) section h = let z : ◌≡◌ {A = ℕ} 0 1 = cc in absurd (omega arith)
checked_unsound (Err e) section h = cc
