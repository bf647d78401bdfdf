-- The number of an element look-up is 0 exactly when the part is not empty, theorem of specs/Theorems:
-- element_answers_agree.
use Prim.Native.Nat.{ℕ, ◌≤◌}
use mathlib.Core.Path.{◌≡◌, refl, ◌∙◌}
use mathlib.Core.List.{List}
use mathlib.Core.Bool.{Bool, true, false, cond}
use lib.Dec.{ltb}
use native.Mathlib.Omega.{arith}
use Rattle.format.specs.Places.{section_end}
use Rattle.index.specs.declared.Entry.{Entry}
use Rattle.package.specs.Package.{structure_of}
use Rattle.lookups.specs.Lookup.{sought}
use Rattle.lookups.proofs.AnswerTheorems.{agree, sought_number}
use Rattle.elements.specs.Elements.{element_of, element_as, sought_element}
use Rattle.format.proofs.VerdictLaws.{refusal_same}
use Rattle.elements.specs.Theorems.{ElementAnswersAgree}
use Rattle.elements.proofs.ElementFound.{found_element}
use Rattle.std.specs.Prelude.{Result, Ok, Err}
use Rattle.format.specs.Verdicts.{refusal}
use Rattle.format.specs.declared.verdict.Refusal.{Refusal}

-- check 26
element_refused : (s : List ℕ) (k : ℕ) (entry : Entry) (number place : ℕ) (b : Bool)
    → cond b (Ok (element_of s entry k)) (Err (refusal 26 0)) ≡ Err (refusal number place) → 1 ≤ number
element_refused s k entry number place true q = let z : ◌≡◌ {A = ℕ} 0 1 = cc in absurd (omega arith)
element_refused s k entry number place false q = let n = (refusal_same q).0 in omega arith

element_number : (s : List ℕ) (which tag ty k number place : ℕ)
    → sought_element s which tag ty k ≡ Err (refusal number place) → 1 ≤ number
unfolding sought_element
element_number s which tag ty k number place h = go (sought s which tag ty) refl h
  where
    go : (x : Result Entry Refusal) → sought s which tag ty ≡ x → element_as s k x ≡ Err (refusal number place) → 1 ≤ number
    go (Ok entry) e q = element_refused s k entry number place (ltb k entry.count) q
    go (Err refused) e q = sought_number s which tag ty number place (e ∙ q)

pub element_answers_agree : ElementAnswersAgree
element_answers_agree s which tag ty k =
    agree s (section_end (structure_of s which)) (sought_element s which tag ty k) (found_element s which tag ty k)
    (element_number s which tag ty k)
