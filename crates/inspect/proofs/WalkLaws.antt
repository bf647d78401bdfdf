-- A step that shows a record leaves fewer records to show: falls.
use Prim.Native.Nat.{ℕ, ◌-◌, ◌<◌}
use mathlib.Core.Path.{◌≡◌, refl}
use mathlib.Core.List.{List}
use mathlib.Core.Bool.{Bool, true, false}
use lib.Dec.{ltb}
use native.Mathlib.Omega.{arith}
use borrow.Author.Tests.{ltb-true}
use Rattle.format.specs.declared.section.Section.{Section}
use Rattle.walk.specs.declared.Step.{Step}
use Rattle.package.specs.Package.{sound_check, structure_of}
use Rattle.walk.specs.Walk.{step_in, step_as, step_of}
use Rattle.std.specs.Prelude.{Ok, Err}
use Rattle.format.specs.Verdicts.{Verdict, refusal}

in_section : (s : List ℕ) (section : Section) (n : ℕ) {place : ℕ} → (step_in s section n).answer ≡ Ok place
    → section.nindex - (step_in s section n).next.number < section.nindex - n
in_section s section n {place} h = go (ltb n section.nindex) refl
  where
    go : (b : Bool) → ltb n section.nindex ≡ b
        → section.nindex - (step_in s section n).next.number < section.nindex - n
    go true e = rw e (omega (arith, ltb-true n section.nindex e))
    go false e =
        let k : (Err (refusal 26 0)) ≡ Ok place = rw e at h in
        let z : ◌≡◌ {A = ℕ} 0 1 = cc in
        omega arith

after_checks : (v : Verdict) (s : List ℕ) (section : Section) (n : ℕ) {place : ℕ}
    → (step_as v s section n).answer ≡ Ok place
    → section.nindex - (step_as v s section n).next.number < section.nindex - n
after_checks (Ok _) s section n h = in_section s section n h
after_checks (Err e) s section n h = let z : ◌≡◌ {A = ℕ} 0 1 = cc in omega arith

pub falls : (s : List ℕ) (which n : ℕ) {t : Step} {place : ℕ} → t ≡ step_of s which n → t.answer ≡ Ok place
    → (structure_of s which).nindex - t.next.number < (structure_of s which).nindex - n
unfolding step_of
falls s which n h k = rw h (after_checks (sound_check s) s (structure_of s which) n (rw h at k))
