-- A turn of the run over a structure's records, from what was read in it: turn, next, ends.
use Prim.Native.Nat.{ℕ, ◌+◌, ◌-◌, ◌<◌}
use mathlib.Core.Path.{◌≡◌, sym, ◌∙◌}
use mathlib.Core.List.{List}
use mathlib.Core.Bool.{not}
use lib.Dec.{eqb}
use borrow.Author.Tests.{not-true}
use Rattle.format.specs.declared.section.Section.{Section}
use Rattle.format.specs.declared.section.Structure.{Structure}
use Rattle.format.specs.declared.records.IndexRecord.{IndexRecord}
use Rattle.format.specs.Places.{record_place}
use Rattle.format.specs.Verdicts.{check, both, run_from, Verdict, pass}
use Rattle.format.specs.declared.verdict.Refusal.{Refusal}
use Rattle.format.proofs.RunLaws as run
use Rattle.format.proofs.VerdictLaws.{inverted, both_inverted}
use Rattle.among.specs.Among.{first_from}
use Rattle.among.proofs.FirstLaws as first
use Rattle.repeats.specs.Repeats.{tag_before, repeated_in}
use Rattle.entries.specs.Entries.{record_at, data_end, data_check, record_check}
use Rattle.entries.proofs.EntryLaws.{entry_as}
use Rattle.std.specs.Prelude.{Err}

-- e is the record that was read, r what its checks found, repeat the first record that repeats a tag, and v what the run
-- began with
module _ (structure : Structure) (s : List ℕ) (section : Section) {at place repeat : ℕ} {e : IndexRecord} {r : Verdict}
    (n i : ℕ) (h : r ≡ both (data_check structure place e (data_end s section e)) (check (not (eqb i repeat)) 13 place pass))
    (g : place ≡ at) (p : at ≡ record_place section i) (q : e ≡ record_at s section i) (l : i < n)
    (known : repeat ≡ first_from (repeated_in s section) (n - i) i) where
  told : eqb i repeat ≡ tag_before s section i (record_at s section i).tag
  unfolding repeated_in
  told = first.decides (repeated_in s section) n i l known

  here : r ≡ record_check structure s section i
  here =
      h ∙ rw (told, g ∙ p, q)
      (sym (entry_as structure s section i (record_place section i) (record_at s section i) (data_end s section (record_at s section i))))

  module _ {v : Verdict} (inv : v ≡ run_from (record_check structure s section) (n - i) i) where
    pub turn : r ≡ pass → v ≡ run_from (record_check structure s section) (n - (i + 1)) (i + 1)
    turn = run.turn (record_check structure s section) n i inv here l

    pub ends : {refused : Refusal} → r ≡ Err refused → Err refused ≡ v
    ends = run.ends (record_check structure s section) n i inv here l

  pub next : r ≡ pass → repeat ≡ first_from (repeated_in s section) (n - (i + 1)) (i + 1)
  next w =
      let passes = (both_inverted (data_check structure place e (data_end s section e)) _ (sym h ∙ w)).1 in
      let new = not-true (eqb i repeat) (inverted (not (eqb i repeat)) 13 place pass passes).0 in
      first.next (repeated_in s section) n i l known (sym (first.decides (repeated_in s section) n i l known) ∙ new)
