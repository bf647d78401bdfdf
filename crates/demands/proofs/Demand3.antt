-- Demand 3 for every earlier and later edition, instances of editions_agree: demand3.
use Prim.Native.Nat.{ℕ, ◌≤◌}
use mathlib.Core.Path.{◌≡◌, ◌∙◌}
use mathlib.Core.Logic.{◌⊎◌, inl, inr}
use mathlib.Core.List.{List}
use native.Mathlib.Omega.{arith}
use Rattle.reading.specs.Editions.{edition_of}
use Rattle.demands.specs.Editions.{ByAdded, Agree}
use Rattle.demands.specs.Demands.{ByBatch, PairAgrees, Demand3}
use Rattle.demands.proofs.EditionTheorems.{editions_agree}
use Rattle.demands.proofs.EditionInstances.{editions_lawful, editions_extend, adds_batch}
use Rattle.demands.proofs.EditionRuns.{editions_run}
use Rattle.format.specs.Verdicts.{Answer}

module _ (earlier later : ℕ) (l : 1 ≤ earlier) where
  -- the one line that a later edition adds is that of the batch weight
  by_batch : (answer : Answer) → ByAdded (edition_of earlier) (edition_of later) answer → (earlier ≡ 1) × ByBatch answer
  by_batch answer (inl (line, a, inl h)) = let k = adds_batch earlier later l line a in (k.0, inl (h ∙ rw k.1))
  by_batch answer (inl (line, a, inr h)) = let k = adds_batch earlier later l line a in (k.0, inr (inl (h ∙ rw k.1)))
  by_batch answer (inr (a, h)) = ((adds_batch earlier later l _ (inr a)).0, inr (inr h))

  pair : (s : List ℕ) {first second : Answer} {after after' : List ℕ}
      → Agree (edition_of earlier) (edition_of later) s first second after after'
      → PairAgrees earlier later s first second after after'
  pair s {first} {second} agree =
      record {
        accepted_lacks = agree.accepted_lacks;
        accepted_both = agree.accepted_both;
        later_refuses = λ n number place h f. by_batch second (agree.later_refuses n number place h f);
        both_refuse = λ number place number' place' h f. sorted number (agree.both_refuse number place number' place' h f);
      }
    where
      sorted : (number : ℕ) → (first ≡ second) ⊎ (number ≡ 20) ⊎ ByAdded (edition_of earlier) (edition_of later) second
          → (first ≡ second) ⊎ (number ≡ 20) ⊎ ((earlier ≡ 1) × ByBatch second)
      sorted number (inl e) = inl e
      sorted number (inr (inl e)) = inr (inl e)
      sorted number (inr (inr a)) = inr (inr (by_batch second a))

pub demand3 : Demand3
demand3 form earlier later l m h s before =
    let early = editions_run form earlier l (omega arith) s before in
    let late = editions_run form later (omega arith) h s before in
    rw (early.answers, early.leaves, late.answers, late.leaves)
    (pair earlier later l s
    (editions_agree (edition_of earlier) (edition_of later) (editions_lawful earlier l) (editions_lawful later (omega arith))
    (editions_extend earlier later (omega arith)) form s before))
