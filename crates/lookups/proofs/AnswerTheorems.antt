-- The number is 0 exactly when the part is not empty, theorems of specs/Theorems: answers_agree,
-- element_answers_agree.
use Prim.Native.Nat.{ℕ, ◌≤◌}
use mathlib.Core.Path.{◌≡◌, refl, ap}
use mathlib.Core.Logic.{◌↔◌, ◌≢◌}
use mathlib.Core.List.{List, []}
use lib.ListN.{length}
use native.Mathlib.Omega.{arith}
use Rattle.be.proofs.ByteLaws.{length_part}
use Rattle.format.specs.Places.{section_end}
use Rattle.format.specs.Verdicts.{number_of, Verdict, refusal}
use Rattle.index.specs.declared.Entry.{Entry}
use Rattle.structure.specs.Sound.{SoundEntry}
use Rattle.index.specs.Lookup.{find_in}
use Rattle.package.specs.Package.{sound_check, structure_of}
use Rattle.lookups.specs.Lookup.{sought_as, sought, entry_bytes, sought_bytes, sought_answer}
use Rattle.lookups.specs.Theorems.{AnswersAgree}
use Rattle.package.proofs.NumberLaws.{sound_number}
use Rattle.lookups.proofs.FoundLaws.{structure_fits_lem, record_of_found, found_sound}
use Rattle.std.specs.Prelude.{Option, Some, None, Result, Ok, Err}
use Rattle.format.specs.declared.verdict.Refusal.{Refusal}
use Rattle.format.proofs.VerdictLaws.{refusal_same}

pub not_empty : (s : List ℕ) (len : ℕ) (entry : Entry) → len ≤ length s → SoundEntry s len entry
    → entry_bytes s entry ≢ []
not_empty s len entry l t q =
    let a = t.inside in
    let b = t.bytes in
    let e = length_part s entry.at.0 entry.extent (omega arith) in
    let z = ap length q in
    omega arith

-- what is sought is sound where it is found, and has a number where it is refused
pub agree : (s : List ℕ) (len : ℕ) (x : Result Entry Refusal)
    → ((entry : Entry) → x ≡ Ok entry → (len ≤ length s) × SoundEntry s len entry)
    → ((number place : ℕ) → x ≡ Err (refusal number place) → 1 ≤ number)
    → (number_of (sought_answer x) ≡ 0) ↔ (sought_bytes s x ≢ [])
agree s len (Ok entry) h k = let t = h entry refl in (λ e. not_empty s len entry t.0 t.1, λ e. refl)
agree s len (Err refused) h k =
    let l = k refused.number refused.place refl in
    (λ e. absurd (omega arith), λ e. absurd (e refl))

pub sought_number : (s : List ℕ) (which tag ty number place : ℕ) → sought s which tag ty ≡ Err (refusal number place) → 1 ≤ number
unfolding sought
sought_number s which tag ty number place h = go (sound_check s) refl (find_in s (structure_of s which) tag ty) h
  where
    go : (v : Verdict) → sound_check s ≡ v → (f : Option Entry) → sought_as v f ≡ Err (refusal number place) → 1 ≤ number
    go (Ok _) e (Some entry) q = let z : ◌≡◌ {A = ℕ} 0 1 = cc in absurd (omega arith)
    go (Ok _) e None q = let n = (refusal_same q).0 in omega arith
    go (Err refused) e f q = let m = (refusal_same q).0 in let t = sound_number s e in omega arith

pub answers_agree : AnswersAgree
answers_agree s which tag ty =
    agree s (section_end (structure_of s which)) (sought s which tag ty)
    (λ entry h.
    (structure_fits_lem s (record_of_found s which tag ty entry h).0 which, found_sound s which tag ty entry h))
    (sought_number s which tag ty)
