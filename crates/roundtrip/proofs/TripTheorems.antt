-- What is written is read back, and written again: the theorems read-back and write_again of specs/Theorems.
use Prim.Native.Nat.{ℕ, ◌≤◌}
use mathlib.Core.Path.{◌≡◌, sym, ap, ◌∙◌}
use mathlib.Core.List.{List}
use lib.ListN.{length, take, drop}
use native.Mathlib.Omega.{arith}
use Rattle.std.specs.Prelude.{Ok}
use Rattle.format.specs.Verdicts.{Answer}
use Rattle.lists.specs.Lists.{ListEntry, list_of, row_of, entries_of}
use Rattle.plan.specs.Refusals.{written_of}
use Rattle.writer.specs.Writing.{Wrote}
use Rattle.roundtrip.specs.Shown.{shown, behind_own}
use Rattle.roundtrip.specs.Theorems.{Octets, Made, ReadBack, WriteAgain}
use Rattle.roundtrip.proofs.ReasonLaws.{Writable, accepted}
use Rattle.roundtrip.proofs.PackageLaws.{reads_back}
use Rattle.roundtrip.proofs.WroteLaws.{done, stands}
use Rattle.roundtrip.proofs.LentLaws.{wide_of, lent_written, lent_accepted}

-- a writing that is accepted
module _ (name signature signatureRow header headerRow before after : List ℕ) (answer : Answer) (n : ℕ)
    (os : Octets signature) (oh : Octets header)
    (w : Wrote name signature signatureRow header headerRow before answer after) (h : answer ≡ Ok n) where
  abbrev signed : List ListEntry
  signed = entries_of signature signatureRow

  abbrev headed : List ListEntry
  headed = entries_of header headerRow

  writable : Writable name signed headed
  writable =
      let a = (accepted name signature signatureRow header headerRow (length before)).0 (done w h).0 in
      record {
        named = a.named;
        signed = a.signed;
        headed = a.headed;
        wide_signed = wide_of signature signatureRow os;
        wide_headed = wide_of header headerRow oh;
        limit = a.limit;
      }

  size : length (written_of name signature signatureRow header headerRow) ≡ n
  size = (done w h).1

  written_there : take n after ≡ written_of name signature signatureRow header headerRow
  written_there = (stands w n (done w h).0 size).1

  made : Made name signature signatureRow header headerRow before after n
  made =
      record {
        reads = rw written_there (reads_back name signed headed writable);
        size = ap length written_there ∙ size;
        behind = (stands w n (done w h).0 size).2;
      }

  -- what was read, without the 1000 and the 1004
  signed_read : behind_own (shown (take n after) 0) ≡ signed
  signed_read = ap behind_own made.reads.signed

  headed_read : shown (take n after) 1 ≡ headed
  headed_read = made.reads.headed 1 (λ q. omega arith)

  again : (before' after' : List ℕ) (answer' : Answer) → n ≤ length before'
      → Wrote name (list_of signed) (row_of signed) (list_of headed) (row_of headed) before' answer' after'
      → (answer' ≡ Ok n) × (take n after' ≡ take n after) × (drop n after' ≡ drop n before')
  again before' after' answer' l w' =
      let e = lent_written name signed headed writable in
      let k = size in
      let v = lent_accepted name signed headed writable (length before') (omega arith) in
      let t = stands w' n v (ap length e ∙ size) in
      (t.0, t.1 ∙ e ∙ sym written_there, t.2)

pub read_back : ReadBack
read_back name signature signatureRow header headerRow before after answer n os oh w h =
    made name signature signatureRow header headerRow before after answer n os oh w h

pub write_again : WriteAgain
write_again name signature signatureRow header headerRow before after answer n os oh w h before' after' answer' l w' =
    let e = signed_read name signature signatureRow header headerRow before after answer n os oh w h in
    let f = headed_read name signature signatureRow header headerRow before after answer n os oh w h in
    again name signature signatureRow header headerRow before after answer n os oh w h before' after' answer' l
    (rw (e, f) at w')
