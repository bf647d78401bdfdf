-- Check 4 is what the rules say of the lead: lead_lawful.
use Prim.Native.Nat.{ℕ, ◌≤◌}
use mathlib.Core.Path.{◌≡◌, refl, sym}
use mathlib.Core.Logic.{◌↔◌}
use mathlib.Core.List.{List}
use mathlib.Core.Bool.{true}
use lib.ListN.{get_or}
use native.Mathlib.Omega.{arith}
use borrow.Author.Tests.{eqb-true, eq-eqb}
use Rattle.strings.specs.Strings.{strings_from, is_ended}
use Rattle.strings.proofs.RowLaws.{single_among}
use Rattle.format.specs.Lead.{lead_of}
use Rattle.format.proofs.VerdictLaws.{passed, inverted}
use Rattle.package.specs.Lead.{lead_check}
use Rattle.demands.specs.Lawful.{LawfulLead}
use Rattle.format.specs.Verdicts.{pass}

module _ (s : List ℕ) where
  -- bytes 10 to 75
  name_lawful : (is_ended (strings_from s 66 10 1) ≡ true) ↔ ((i : ℕ) × (10 ≤ i) × (i ≤ 75) × (get_or s i 0 ≡ 0))
  name_lawful = (
    λ h. let r = (single_among s 66 10).0 h in (r.0, r.1, omega arith, r.3),
    λ h. (single_among s 66 10).1 (h.0, h.1, omega arith, h.3),
  )

  lead_rules : lead_check (lead_of s) ≡ pass → LawfulLead s
  unfolding lead_check
  lead_rules h =
      let k0 = inverted _ _ _ _ h in
      let k4 = inverted _ _ _ _ k0.1 in
      let k5 = inverted _ _ _ _ k4.1 in
      let k6 = inverted _ _ _ _ k5.1 in
      let k10 = inverted _ _ _ _ k6.1 in
      let k76 = inverted _ _ _ _ k10.1 in
      let k78 = inverted _ _ _ _ k76.1 in
      record {
        magic = eqb-true _ _ k0.0;
        major = eqb-true _ _ k4.0;
        minor = eqb-true _ _ k5.0;
        type' = eqb-true _ _ k6.0;
        name = name_lawful.0 k10.0;
        system = eqb-true _ _ k76.0;
        signature_type = eqb-true _ _ k78.0;
      }

  lead_passes : LawfulLead s → lead_check (lead_of s) ≡ pass
  unfolding lead_check
  lead_passes h =
      sym (passed _ _ (eq-eqb _ _ h.magic)
      (passed _ _ (eq-eqb _ _ h.major)
      (passed _ _ (eq-eqb _ _ h.minor)
      (passed _ _ (eq-eqb _ _ h.type')
      (passed _ _ (name_lawful.1 h.name)
      (passed _ _ (eq-eqb _ _ h.system)
      (passed _ _ (eq-eqb _ _ h.signature_type)
      refl)))))))

  pub lead_lawful : (lead_check (lead_of s) ≡ pass) ↔ LawfulLead s
  lead_lawful = (lead_rules, lead_passes)
