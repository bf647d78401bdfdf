-- What 32 leaves (lent, room_ready); the plan where 32 passes (room_decides); and for callers
-- what a plan says: of a refusal (refused), and of sizes that fit (fitting, length_is, put_ready).
use Prim.Native.Nat.{ℕ, ◌/◌, ◌≤◌}
use mathlib.Core.Path.{◌≡◌, refl, sym, ap, ◌∙◌}
use mathlib.Core.List.{List}
use lib.ListN.{length}
use native.Mathlib.Omega.{arith}
use borrow.Author.Tests.{leb-true}
use Rattle.format.proofs.VerdictLaws.{inverted, both_inverted, both_pass}
use Rattle.lists.specs.Lists.{sizes_from}
use Rattle.lists.proofs.ListLaws.{entries_total}
use Rattle.reasons.specs.Reasons.{reasons}
use Rattle.reasons.proofs.RightLaws.{list_right, form_right}
use Rattle.plan.specs.declared.Sizes.{Sizes}
use Rattle.plan.specs.Refusals.{room_check, written_of, write_check}
use Rattle.plan.specs.Sizes.{Listed, sizes_of, plan_as, planned, decided}
use Rattle.plan.proofs.SizeLaws.{written_length, stores_fit}
use Rattle.std.specs.Prelude.{Result, Ok, Err}
use Rattle.format.specs.Verdicts.{Verdict, pass}
use Rattle.format.specs.declared.verdict.Refusal.{Refusal}

plan_fits : (v : Verdict) (s : Sizes) {sizes : Sizes} → plan_as v s ≡ Ok sizes → (v ≡ pass) × (s ≡ sizes)
plan_fits (Ok _) s h = (refl, cc)
plan_fits (Err e) s h = let z : ◌≡◌ {A = ℕ} 0 1 = cc in absurd (omega arith)

plan_refused : (v : Verdict) (s : Sizes) {e : Refusal} → plan_as v s ≡ Err e → v ≡ Err e
plan_refused (Ok _) s h = let z : ◌≡◌ {A = ℕ} 0 1 = cc in absurd (omega arith)
plan_refused (Err e) s h = cc

-- what 32 leaves of the lists
record Lent (sig sigs head heads : List ℕ) : Type 0 where
  signed : sizes_from sig (length sig / 16) 0 ≡ length sigs
  headed : sizes_from head (length head / 16) 0 ≡ length heads
  few_signed : length sig / 16 ≤ 512
  few_headed : length head / 16 ≤ 512

module _ (name sig sigs head heads : List ℕ) where
  lent : reasons name sig sigs head heads ≡ pass → Lent sig sigs head heads
  unfolding reasons
  lent h =
      let a = both_inverted _ _ h in
      let b = both_inverted _ _ a.1 in
      let c = both_inverted _ _ b.1 in
      let d = both_inverted _ _ c.1 in
      let e = entries_total sig sigs (length sig / 16) 0 0 in
      let f = entries_total head heads (length head / 16) 0 0 in
      let i = ((list_right _ _).0 d.0).within in
      let j = ((list_right _ _).0 d.1).within in
      record {
        signed = ((form_right sig sigs).0 a.0).meet;
        headed = ((form_right head heads).0 b.0).meet;
        few_signed = omega arith;
        few_headed = omega arith;
      }

  module _ {v : Verdict} (p : v ≡ reasons name sig sigs head heads) where
    pub room_ready : v ≡ pass
        → (length sig / 16 ≤ 512) × (length head / 16 ≤ 512) × (sizes_from sig (length sig / 16) 0 ≡ length sigs)
        × (sizes_from head (length head / 16) 0 ≡ length heads)
    room_ready h = let l = lent (sym p ∙ h) in (l.few_signed, l.few_headed, l.signed, l.headed)

    module _ (room : ℕ) where
      pub room_decides : {r : Result Sizes Refusal} → v ≡ pass → r ≡ planned sig sigs head heads room
          → r ≡ decided name sig sigs head heads room
      unfolding decided planned write_check
      room_decides h q =
          q ∙ sym (rw (both_pass (sym p ∙ h)) (rw (written_length sig sigs head heads name)))

  -- for callers
  module _ (room : ℕ) {r : Result Sizes Refusal} (q : r ≡ decided name sig sigs head heads room) where
    pub refused : {e : Refusal} → r ≡ Err e → write_check name sig sigs head heads room ≡ Err e
    unfolding decided
    refused h = plan_refused _ _ (sym q ∙ h)

    module _ {sizes : Sizes} (h : r ≡ Ok sizes) where
      pub fitting : (write_check name sig sigs head heads room ≡ pass) × (sizes_of sig sigs head heads ≡ sizes)
      unfolding decided
      fitting = plan_fits (write_check name sig sigs head heads room) (sizes_of sig sigs head heads) (sym q ∙ h)

      pub length_is : sizes.length ≡ length (written_of name sig sigs head heads)
      length_is = ap (λ (s : Sizes). s.length) (sym fitting.1) ∙ sym (written_length sig sigs head heads name)

      bounds : (length (written_of name sig sigs head heads) ≤ 65536) × (length (written_of name sig sigs head heads) ≤ room)
      unfolding write_check room_check
      bounds =
          let a = inverted _ _ _ _ (both_inverted _ _ fitting.0).1 in
          let b = inverted _ _ _ _ a.1 in
          (leb-true _ _ a.0, leb-true _ _ b.0)

      found : reasons name sig sigs head heads ≡ pass
      unfolding write_check
      found = (both_inverted _ _ fitting.0).0

      pub put_ready : Listed sig sigs × Listed head heads × (sizes ≡ sizes_of sig sigs head heads) × (sizes.length ≤ room)
          × (sizes.length ≤ 65536)
      put_ready =
          let l = lent found in
          let a = stores_fit sig sigs head heads l.signed l.headed in
          let b = bounds in
          let c = length_is in
          let d = written_length sig sigs head heads name in (
            (l.few_signed, omega arith, l.signed),
            (l.few_headed, omega arith, l.headed),
            sym fitting.1,
            omega arith,
            omega arith,
          )
