-- Kinds and doses, as specs/KindTheorems states it: bodies_sized, any_kinds, kept_kinds.
use Prim.Native.Nat.{ℕ, ◌+◌, ◌%◌}
use mathlib.Core.Path.{◌≡◌, refl, sym, ap, ◌∙◌}
use mathlib.Core.List.{List, [], ◌∷◌}
use mathlib.Core.Bool.{Bool, true, false, cond}
use lib.ListN.{length}
use native.Mathlib.Omega.{arith}
use Rattle.book.specs.declared.dose.Dose.{Dose}
use Rattle.book.specs.Kinds.{is_weighed, Part, Body, Kinds, knows, kind_table}
use Rattle.book.specs.Book.{kind_at, places, lot_in, dose_by, records_check}
use Rattle.book.specs.Doses.{doses_by, sum_of}
use Rattle.book.specs.KindTheorems.{parts_size, BodiesSized, AnyKinds, KeepsKinds, KeptKinds}
use Rattle.book.proofs.KindLaws.{held, each_kind}
use Rattle.book.proofs.PassLaws.{record_pass, pass_first, pass_records}
use Rattle.format.specs.Verdicts.{pass}

pub bodies_sized : BodiesSized
unfolding kind_table parts_size
bodies_sized =
    each_kind (λ (kind : ℕ) (parts : List Part). parts_size parts ≡ kind % 16) kind_table
    (refl, (refl, (refl, (refl, (refl, tt)))))

module _ (kinds kinds' : Kinds) (b : List ℕ) where
  abbrev Alike : List Dose → List Dose → Type 0
  Alike ds ds' = (length ds ≡ length ds') × (sum_of ds ≡ sum_of ds')

  alike : (ps : List ℕ) → Alike (doses_by kinds b ps) (doses_by kinds' b ps)
  unfolding doses_by sum_of
  alike [] = (refl, refl)
  alike (at ∷ rest) = go (is_weighed (kind_at b at)) (alike rest)
    where
      go : (w : Bool) → Alike (doses_by kinds b rest) (doses_by kinds' b rest)
          → Alike (cond w (dose_by kinds b at ∷ doses_by kinds b rest) (doses_by kinds b rest))
          (cond w (dose_by kinds' b at ∷ doses_by kinds' b rest) (doses_by kinds' b rest))
      go true h = let n = h.0 in let m = h.1 in (omega arith, omega arith)
      go false h = h

pub any_kinds : AnyKinds
any_kinds kinds kinds' b = alike kinds kinds' b (places b)

module _ (earlier later : Kinds) (keeps : KeepsKinds earlier later) (b : List ℕ) where
  -- a weighed kind that is known has the same body by both
  same_dose : (at : ℕ) → knows earlier (kind_at b at) ≡ true → dose_by earlier b at ≡ dose_by later b at
  same_dose at h =
      let k = held (earlier (kind_at b at)) h in
      ap (λ (body : Body). with_lot at body) (k.1 ∙ sym (keeps (kind_at b at) k.0 k.1))
    where
      with_lot : ℕ → Body → Dose
      with_lot at body =
          record {
            oxide = (dose_by earlier b at).oxide;
            milligrams = (dose_by earlier b at).milligrams;
            lot = record { 0 = lot_in body b (at + 1) };
          }

  same_doses : (ps : List ℕ) → records_check (knows earlier) b ps ≡ pass → doses_by earlier b ps ≡ doses_by later b ps
  unfolding doses_by
  same_doses [] h = refl
  same_doses (at ∷ rest) h =
      let f = pass_first (knows earlier) b at rest h in
      go (is_weighed (kind_at b at)) (record_pass (knows earlier) b at f.0).0 (same_doses rest f.1)
    where
      go : (w : Bool) → cond w (knows earlier (kind_at b at)) true ≡ true → doses_by earlier b rest ≡ doses_by later b rest
          → cond w (dose_by earlier b at ∷ doses_by earlier b rest) (doses_by earlier b rest)
          ≡ cond w (dose_by later b at ∷ doses_by later b rest) (doses_by later b rest)
      go true k e = rw (same_dose at k, e)
      go false k e = e

pub kept_kinds : KeptKinds
kept_kinds earlier later keeps b h = same_doses earlier later keeps b (places b) (pass_records (knows earlier) b h)
