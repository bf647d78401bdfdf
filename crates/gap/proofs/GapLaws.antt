-- One byte of the gap: zero_passes, stray_fails. Laws of all, with what is left of
-- them (Left), one for each way through a turn: begun, place_fits, zero_turn, stray_ends, spent.
use Prim.Native.Nat.{ℕ, suc, ◌+◌, ◌-◌, ◌≤◌, ◌<◌}
use mathlib.Core.Path.{◌≡◌, refl, sym, ap, ◌∙◌}
use mathlib.Core.List.{List}
use mathlib.Core.Bool.{Bool, true, false, cond}
use lib.ListN.{get_or}
use lib.Dec.{leb}
use mir.Syntax.{w32}
use mir.Val.{Fits}
use native.Mathlib.Omega.{arith}
use borrow.Author.Tests.{eq-eqb, ne_eqb, leb-true}
use Rattle.places.specs.Behind.{behind}
use Rattle.places.proofs.BehindLaws.{near}
use Rattle.format.specs.Verdicts.{check, both, run_from, pass, refusal}
use Rattle.format.proofs.VerdictLaws.{both_pass, both_fail}
use Rattle.format.proofs.RunLaws as run
use Rattle.gap.specs.Gap.{gap_end, zero_check, gap_check}
use Rattle.std.specs.Prelude.{Err}

module _ (len start : ℕ) where
  ends_within : gap_end len start ≤ len
  ends_within = go (leb start len) refl
    where
      go : (b : Bool) → leb start len ≡ b → cond b start len ≤ len
      go true h = leb-true start len h
      go false h = omega arith

module _ (s : List ℕ) (i : ℕ) {b : ℕ} (p : b ≡ get_or s i 0) where
  pub zero_passes : b ≡ 0 → zero_check s i ≡ pass
  unfolding zero_check check
  zero_passes h = rw (← p, eq-eqb b 0 h)

  pub stray_fails : (b ≡ 0 → ⊥) → zero_check s i ≡ Err (refusal 28 i)
  unfolding zero_check check
  stray_fails h = rw (← p, ne_eqb b 0 h)

-- the run began with size bytes from the place first on, and goes on from i behind the first done of them
pub record Left (s : List ℕ) (size first done i : ℕ) : Type 0 where
  pub here : i ≡ first + done
  pub same : run_from (zero_check s) size first ≡ run_from (zero_check s) (size - done) i

pub begun : (s : List ℕ) (size first : ℕ) → Left s size first 0 first
begun s size first =
    let k : size - 0 ≡ size = omega arith in
    record { here = omega arith; same = ap (λ (n : ℕ). run_from (zero_check s) n first) (sym k) }

module _ (s : List ℕ) (len start size first : ℕ) {from : ℕ} (g : size ≡ gap_end len start - from) (e : from ≡ first)
    {done i : ℕ} (inv : Left s size first done i) where
  module _ (l : done < size) where
    within : i < len
    within = let a = ends_within len start in let c = inv.here in omega arith

    pub place_fits : {here : ℕ} → here ≡ i → Fits w32 len → Fits w32 here
    place_fits p f = let a = within in let b = f.fits in record { fits = omega arith }

    unrolled : run_from (zero_check s) size first ≡ both (zero_check s i) (run_from (zero_check s) (size - (done + 1)) (i + 1))
    unrolled =
        let k : size - done ≡ suc (size - (done + 1)) = omega arith in
        inv.same ∙ ap (λ (n : ℕ). run_from (zero_check s) n i) k ∙ run.first (zero_check s) (size - (done + 1)) i

    -- b is byte i
    module _ {b : ℕ} (p : b ≡ get_or s i 0) where
      pub zero_turn : {next : ℕ} → next ≡ behind i 1 → Fits w32 len → b ≡ 0 → Left s size first (done + 1) next
      zero_turn q f k =
          let a = within in
          let n = near i 1 q (let c = f.fits in omega arith) in
          let c = inv.here in
          record {
            here = omega arith;
            same = rw n (unrolled ∙ both_pass (zero_passes s i p k));
          }

      pub stray_ends : {at : ℕ} → at ≡ i → (b ≡ 0 → ⊥) → Err (refusal 28 at) ≡ gap_check s len first start
      unfolding gap_check
      stray_ends q k = rw (q, ← e, ← g, e) (sym (unrolled ∙ both_fail _ (stray_fails s i p k)))

  pub spent : size ≤ done → pass ≡ gap_check s len first start
  unfolding gap_check
  spent l =
      let k : size - done ≡ 0 = omega arith in
      rw (← e, ← g, e) (sym (inv.same ∙ ap (λ (n : ℕ). run_from (zero_check s) n i) k ∙ run.none (zero_check s) i))
