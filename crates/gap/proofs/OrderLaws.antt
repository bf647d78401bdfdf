-- The gap passes where each of its bytes is zero (gap_pass), and is refused at the first that isn't (gap_in_order).
use Prim.Native.Nat.{ℕ, ◌+◌, ◌-◌, ◌≤◌, ◌<◌}
use mathlib.Core.Path.{◌≡◌, refl, sym, ◌∙◌}
use mathlib.Core.Logic.{◌↔◌, ◌≢◌}
use mathlib.Core.List.{List}
use mathlib.Core.Bool.{Bool, true, false, cond}
use lib.ListN.{get_or}
use lib.Dec.{leb}
use native.Mathlib.Omega.{arith}
use borrow.Author.Tests.{eqb-true, leb-true, leb-false}
use Rattle.format.proofs.VerdictLaws.{inverted, refusal_same}
use Rattle.format.proofs.FirstLaws.{pass_not_fail, run_passes, run_fails}
use Rattle.gap.specs.Gap.{gap_end, zero_check, gap_check}
use Rattle.gap.specs.Order.{InGap, GapPass, GapInOrder}
use Rattle.gap.proofs.GapLaws.{zero_passes, stray_fails}
use Rattle.std.specs.Prelude.{Err}
use Rattle.format.specs.Verdicts.{pass, refusal}

module _ (s : List ℕ) (i : ℕ) where
  byte_passes : (zero_check s i ≡ pass) ↔ (get_or s i 0 ≡ 0)
  unfolding zero_check
  byte_passes = (λ h. eqb-true _ _ (inverted _ _ _ _ h).0, zero_passes s i refl)

  byte_fails : {number place : ℕ} → (zero_check s i ≡ Err (refusal number place)) ↔ ((number ≡ 28) × (i ≡ place) × (get_or s i 0 ≢ 0))
  byte_fails {number} {place} = (
    λ h.
        let stray : get_or s i 0 ≢ 0 = λ z. pass_not_fail (sym (zero_passes s i refl z) ∙ h) in
        let same : (Err (refusal 28 i)) ≡ Err (refusal number place) = sym (stray_fails s i refl stray) ∙ h in
        (sym (refusal_same same).0, (refusal_same same).1, stray),
    λ h. stray_fails s i refl h.2 ∙ rw (h.0, h.1),
  )

-- the bytes that are gone through are those between the signature's end and H that the package has
module _ (len end start i : ℕ) where
  inside : end ≤ i → i < end + (gap_end len start - end) → InGap len end start i
  inside a = go (leb start len) refl
    where
      go : (b : Bool) → leb start len ≡ b → i < end + (cond b start len - end) → InGap len end start i
      go true p h = let l = leb-true start len p in record { after = a; before = omega arith; there = omega arith }
      go false p h = let l = leb-false start len p in record { after = a; before = omega arith; there = omega arith }

  gone_through : InGap len end start i → i < end + (gap_end len start - end)
  gone_through g = go (leb start len)
    where
      go : (b : Bool) → i < end + (cond b start len - end)
      go true = let a = g.after in let h = g.before in omega arith
      go false = let a = g.after in let h = g.there in omega arith

pub gap_pass : GapPass
unfolding gap_check
gap_pass s len end start =
    let run = run_passes (zero_check s) (gap_end len start - end) end in (
      λ h i g. (byte_passes s i).0 (run.0 h i g.after (gone_through len end start i g)),
      λ h. run.1 (λ i l m. (byte_passes s i).1 (h i (inside len end start i l m))),
    )

pub gap_in_order : GapInOrder
unfolding gap_check
gap_in_order s len end start number place =
    let run = run_fails (zero_check s) (gap_end len start - end) end in (
      λ h. let f = run.0 h in
          let g = (byte_fails s f.which).0 f.fails in (
            g.0,
            rw (← g.1) (record {
              within = inside len end start f.which f.from f.within;
              stray = g.2;
              before = λ i k l. (byte_passes s i).0 (f.before i k.after l);
            }),
          ),
      λ h. let f = h.1 in
          run.1 (record {
            which = place;
            from = f.within.after;
            within = gone_through len end start place f.within;
            fails = (byte_fails s place).1 (h.0, refl, f.stray);
            before = λ i l m.
                let w = f.within in
                (byte_passes s i).1
                (f.before i (record { after = l; before = let b = w.before in omega arith; there = let t = w.there in omega arith }) m);
          }),
    )
