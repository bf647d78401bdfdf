-- The group passes where no record offends (locales_pass), and is refused at the first that does (locales_in_order).
use Prim.Native.Nat.{ℕ}
use mathlib.Core.Path.{◌≡◌, refl, sym}
use mathlib.Core.Logic.{◌↔◌}
use mathlib.Core.Bool.{Bool, true, false, not, ◌||◌}
use lib.Dec.{eqb, leb}
use native.Mathlib.Omega.{arith}
use borrow.Author.Tests.{eqb-true, eqb-false, leb-true, leb-false}
use Rattle.format.specs.declared.records.IndexRecord.{IndexRecord}
use Rattle.format.specs.Verdicts.{check, pass, refusal}
use Rattle.format.proofs.VerdictLaws.{refusal_same}
use Rattle.format.proofs.FirstLaws.{pass_not_fail, run_passes, run_fails}
use Rattle.entries.specs.Entries.{record_at}
use Rattle.locales.specs.Locales.{locale_check}
use Rattle.locales.specs.Order.{Offends, LocalesPass, LocalesInOrder}
use Rattle.std.specs.Prelude.{Err}

module _ (most : ℕ) (e : IndexRecord) where
  record_passes : (locale_check most e ≡ pass) ↔ (Offends most e → ⊥)
  unfolding locale_check check
  record_passes = go (eqb e.ty 9) (leb e.count most) refl refl
    where
      go : (a b : Bool) → eqb e.ty 9 ≡ a → leb e.count most ≡ b
          → (check (not a || b) 17 e.tag pass ≡ pass) ↔ (Offends most e → ⊥)
      go false b p q = (λ h o. eqb-false _ _ p o.0, λ h. refl)
      go true true p q = (λ h o. let l = leb-true e.count most q in let m = o.1 in omega arith, λ h. refl)
      go true false p q = (λ h. absurd (pass_not_fail (sym h)), λ h. absurd (h (eqb-true _ _ p, leb-false _ _ q)))

  record_fails : {number tag : ℕ}
      → (locale_check most e ≡ Err (refusal number tag)) ↔ ((number ≡ 17) × (e.tag ≡ tag) × Offends most e)
  unfolding locale_check check
  record_fails {number} {tag} = go (eqb e.ty 9) (leb e.count most) refl refl
    where
      go : (a b : Bool) → eqb e.ty 9 ≡ a → leb e.count most ≡ b
          → (check (not a || b) 17 e.tag pass ≡ Err (refusal number tag)) ↔ ((number ≡ 17) × (e.tag ≡ tag) × Offends most e)
      go false b p q = (λ h. absurd (pass_not_fail h), λ h. absurd (eqb-false _ _ p h.2.0))
      go true true p q = (
        λ h. absurd (pass_not_fail h),
        λ h. let l = leb-true e.count most q in let m = h.2.1 in absurd (omega arith),
      )
      go true false p q = (
        λ h. let r = refusal_same h in (sym r.0, r.1, (eqb-true _ _ p, leb-false _ _ q)),
        λ h. rw (h.0, h.1),
      )

pub locales_pass : LocalesPass
locales_pass s header most =
    let run = run_passes (λ (i : ℕ). locale_check most (record_at s header i)) header.nindex 0 in (
      λ h i l. (record_passes most (record_at s header i)).0 (run.0 h i (omega arith) (omega arith)),
      λ h. run.1 (λ i l m. (record_passes most (record_at s header i)).1 (h i (omega arith))),
    )

pub locales_in_order : LocalesInOrder
locales_in_order s header most number tag =
    let run = run_fails (λ (i : ℕ). locale_check most (record_at s header i)) header.nindex 0 in (
      λ h. let f = run.0 h in
          let g = (record_fails most (record_at s header f.which)).0 f.fails in (
            g.0,
            record {
              number = f.which;
              within = let l = f.within in omega arith;
              tagged = g.1;
              offends = g.2;
              before = λ k l. (record_passes most (record_at s header k)).0 (f.before k (omega arith) l);
            },
          ),
      λ h. let f = h.1 in
          run.1 (record {
            which = f.number;
            from = omega arith;
            within = let l = f.within in omega arith;
            fails = (record_fails most (record_at s header f.number)).1 (h.0, f.tagged, f.offends);
            before = λ k l m. (record_passes most (record_at s header k)).1 (f.before k m);
          }),
    )
