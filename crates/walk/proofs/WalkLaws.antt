-- Walking an index, a theorem of specs/Theorems: walk_visits_all.
use Prim.Native.Nat.{ℕ, zero, suc, ◌+◌, ◌≤◌, ◌<◌}
use mathlib.Core.Path.{◌≡◌, refl, ap, ◌∙◌}
use mathlib.Core.List.{List, [], ◌∷◌}
use native.Mathlib.Omega.{arith}
use borrow.Author.Tests.{lt-ltb, le-ltb}
use Rattle.entries.specs.Entries.{record_at}
use Rattle.package.specs.Package.{sound_check, structure_of}
use Rattle.walk.specs.Walk.{step_in, step_of}
use Rattle.walk.specs.Theorems.{visited, walk_from, records_of, WalkVisitsAll}
use Rattle.format.specs.Verdicts.{pass}

module _ (s : List ℕ) (which : ℕ) where
  walk_none : (position : ℕ) → walk_from s which 0 position ≡ []
  unfolding walk_from
  walk_none position = refl

  walk_unrolled : (n position : ℕ) → walk_from s which (suc n) position
      ≡ visited (step_of s which position).answer (step_of s which position).found
      (walk_from s which n (step_of s which position).next.number)
  unfolding walk_from
  walk_unrolled n position = refl

  module _ (h : sound_check s ≡ pass) where
    step_taken : (position : ℕ) → step_of s which position ≡ step_in s (structure_of s which) position
    unfolding step_of
    step_taken position = rw h

    walk_step : (n position : ℕ) → position < (structure_of s which).nindex
        → walk_from s which (suc n) position
        ≡ record_at s (structure_of s which) position ∷ walk_from s which n (position + 1)
    walk_step n position l = walk_unrolled n position ∙ rw (step_taken position, lt-ltb _ _ l)

    walk_end : (n position : ℕ) → (structure_of s which).nindex ≤ position → walk_from s which (suc n) position ≡ []
    walk_end n position l = walk_unrolled n position ∙ rw (step_taken position, le-ltb _ _ l)

    -- the m records that are left, where as many steps are
    walk_records : (n m position : ℕ) → m ≤ n → position + m ≡ (structure_of s which).nindex
        → walk_from s which n position ≡ records_of s (structure_of s which) m position
    unfolding records_of
    walk_records zero zero position l e = walk_none position
    walk_records zero (suc m) position l e = absurd (omega arith)
    walk_records (suc n) zero position l e = walk_end n position (omega arith)
    walk_records (suc n) (suc m) position l e =
        walk_step n position (omega arith)
        ∙ ap (◌∷◌ (record_at s (structure_of s which) position))
        (walk_records n m (position + 1) (omega arith) (omega arith))

pub walk_visits_all : WalkVisitsAll
walk_visits_all s which steps h l = walk_records s which h steps (structure_of s which).nindex 0 l (omega arith)
