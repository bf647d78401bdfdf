-- The promise for each way through the writing: refuses, wrote.
use Prim.Native.Nat.{ℕ}
use mathlib.Core.Path.{◌≡◌}
use mathlib.Core.List.{List}
use lib.ListN.{length}
use lib.Seq.{sets}
use Rattle.plan.specs.declared.Sizes.{Sizes}
use Rattle.plan.specs.Refusals.{written_of}
use Rattle.plan.specs.Sizes.{decided}
use Rattle.plan.proofs.PlanLaws.{refused, fitting, length_is}
use Rattle.writer.specs.Writing.{Wrote}
use Rattle.std.specs.Prelude.{Result, Ok, Err}
use Rattle.format.specs.declared.verdict.Refusal.{Refusal}

module _ (name sig sigs head heads before : List ℕ) {r : Result Sizes Refusal}
    (q : r ≡ decided name sig sigs head heads (length before)) where
  pub refuses : {e : Refusal} → r ≡ Err e → Wrote name sig sigs head heads before (Err e) before
  refuses h =
      let k = refused name sig sigs head heads (length before) q h in
      record { answered = rw k; left = rw k }

  pub wrote : {sizes : Sizes} → r ≡ Ok sizes → {after : List ℕ}
      → after ≡ sets before 0 (written_of name sig sigs head heads)
      → Wrote name sig sigs head heads before (Ok sizes.length) after
  wrote h k =
      let w = (fitting name sig sigs head heads (length before) q h).0 in
      let m = length_is name sig sigs head heads (length before) q h in
      record { answered = rw (w, m); left = rw w k }
