-- Where 28 stands: gap_refused, gap_cut.
use Prim.Native.Nat.{ℕ, ◌+◌, ◌<◌}
use mathlib.Core.Path.{◌≡◌, refl, sym, ◌∙◌}
use mathlib.Core.Logic.{⊎_elim}
use mathlib.Core.List.{List}
use lib.ListN.{length}
use native.Mathlib.Omega.{arith}
use borrow.Author.Tests.{lt-leb}
use Rattle.format.specs.declared.section.Structure.TheVariants.{Header}
use Rattle.format.specs.Sizes.{header_record_size}
use Rattle.format.specs.Verdicts.{both, refusal}
use Rattle.format.proofs.VerdictLaws.{stopped, both_pass, both_fail}
use Rattle.structure.specs.Structure.{header_check, structure_check}
use Rattle.gap.proofs.OrderLaws.{gap_pass, gap_in_order}
use Rattle.package.specs.Package.{signature_at, header_start, gap_in, structures_check, package_check, sound_check}
use Rattle.package.specs.Order.{SignaturePasses, GapRefused, GapCut}
use Rattle.package.proofs.NumberLaws.{failed}
use Rattle.std.specs.Prelude.{Err}

-- behind a signature that passes: the gap, then the header
left : (s : List ℕ) → SignaturePasses s
    → sound_check s ≡ both (gap_in s (length s)) (structure_check Header s (length s) (header_start (signature_at s)))
unfolding package_check structures_check
left s p = both_pass p.size ∙ both_pass p.lead ∙ both_pass p.signature

pub gap_refused : GapRefused
gap_refused s place = (
  λ h. ⊎_elim (λ t. absurd (omega arith)) (λ t. (t.0, ((gap_in_order s _ _ _ _ _).0 t.1).1)) (failed s h),
  λ t. left s t.0 ∙ both_fail _ ((gap_in_order s _ _ _ _ _).1 (refl, t.1)),
)

no_room : (s : List ℕ) (len start : ℕ) → len < start + header_record_size → structure_check Header s len start ≡ Err (refusal 5 start)
unfolding structure_check header_check
no_room s len start l = both_fail _ (sym (stopped _ (lt-leb _ _ l)))

pub gap_cut : GapCut
gap_cut s p zero l = left s p ∙ both_pass ((gap_pass s _ _ _).1 zero) ∙ no_room s (length s) (header_start (signature_at s)) l
