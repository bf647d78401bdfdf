-- A writing is accepted exactly when the rules hold: the theorem accepted_exactly of specs/Theorems.
use Prim.Native.Nat.{ℕ}
use mathlib.Core.Path.{◌≡◌}
use mathlib.Core.List.{List}
use lib.ListN.{length}
use Rattle.format.specs.Verdicts.{pass}
use Rattle.lists.specs.Lists.{entries_of}
use Rattle.plan.specs.Refusals.{write_check}
use Rattle.roundtrip.specs.Lawful.{LentAs, LawfulWriting}
use Rattle.roundtrip.specs.Theorems.{Octets, AcceptedExactly}
use Rattle.reasons.proofs.RightLaws.{FormRight}
use Rattle.roundtrip.proofs.ReasonLaws.{Writable, accepted}
use Rattle.roundtrip.proofs.WroteLaws.{zero_number}
use Rattle.roundtrip.proofs.LentLaws.{wide_of, lent_accepted, form_lent}
use Rattle.roundtrip.proofs.LawfulLaws.{headed_lawful_lem, signed_lawful_lem}

lent_as : (list row : List ℕ) → Octets list → FormRight list row → LentAs list row (entries_of list row)
lent_as list row o f =
    let k = form_lent list row o f in
    record { numbers = k.0; rows = k.1; wide = wide_of list row o }

module _ (name signature signatureRow header headerRow : List ℕ) (room : ℕ) where
  rules : Octets signature → Octets header → write_check name signature signatureRow header headerRow room ≡ pass
      → LawfulWriting name signature signatureRow header headerRow room
  rules os oh h =
      let a = (accepted name signature signatureRow header headerRow room).0 h in
      let s = (signed_lawful_lem (entries_of signature signatureRow)).0 a.signed in
      let t = (headed_lawful_lem (entries_of header headerRow)).0 a.headed in
      record {
        named = a.named;
        signed = entries_of signature signatureRow;
        signed_lent = lent_as signature signatureRow os a.signed_form;
        headed = entries_of header headerRow;
        headed_lent = lent_as header headerRow oh a.headed_form;
        few_signed = s.0;
        some_headed = t.0;
        few_headed = t.1;
        signed_lawful = s.1;
        not_size = λ i l. (s.2 i l).0;
        not_digest = λ i l. (s.2 i l).1;
        headed_lawful = t.2;
        limit = a.limit;
        fits = a.fits;
      }

  passes : LawfulWriting name signature signatureRow header headerRow room
      → write_check name signature signatureRow header headerRow room ≡ pass
  passes r =
      let s = r.signed_lent in
      let t = r.headed_lent in
      let w : Writable name r.signed r.headed =
      record {
        named = r.named;
        signed = (signed_lawful_lem r.signed).1 (r.few_signed, r.signed_lawful, λ i l. (r.not_size i l, r.not_digest i l));
        headed = (headed_lawful_lem r.headed).1 (r.some_headed, r.few_headed, r.headed_lawful);
        wide_signed = s.wide;
        wide_headed = t.wide;
        limit = r.limit;
      } in
      rw (s.numbers, s.rows, t.numbers, t.rows) (lent_accepted name r.signed r.headed w room r.fits)

pub accepted_exactly : AcceptedExactly
accepted_exactly name signature signatureRow header headerRow before after answer os oh w =
    let z = zero_number w in (
      λ h. rules name signature signatureRow header headerRow (length before) os oh (z.0 h),
      λ r. z.1 (passes name signature signatureRow header headerRow (length before) r),
    )
