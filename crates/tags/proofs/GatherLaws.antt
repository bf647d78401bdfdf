-- Laws of `gathered_from`: with no record (none_yet), with one more (turn), with all (spent).
use Rattle.std.proofs.Common.{ℕ, suc, ◌+◌, ◌-◌, ◌≤◌, ◌<◌, ◌≡◌, refl, sym, ◌∙◌, List, arith}
use Rattle.format.specs.declared.section.Section.{Section}
use Rattle.entries.specs.Entries.{record_at}
use Rattle.tags.specs.declared.Table.{Table}
use Rattle.tags.specs.Tables.{noted, gathered_from, gathered}

module _ (s : List ℕ) (section : Section) (table : Table) where
  pub step : (n i : ℕ) → gathered_from s section table (suc n) i ≡ noted (record_at s section i) (gathered_from s section table n (i + 1))
  unfolding gathered_from
  step n i = refl

  pub none : (i : ℕ) → gathered_from s section table 0 i ≡ table
  unfolding gathered_from
  none i = refl

  pub none_yet : (n : ℕ) → table ≡ gathered_from s section table (n - n) n
  none_yet n = let e : n - n ≡ 0 = omega arith in rw e (sym (none n))

  unrolled : (n i : ℕ) → 0 < i → i ≤ n
      → gathered_from s section table (n - (i - 1)) (i - 1) ≡ noted (record_at s section (i - 1)) (gathered_from s section table (n - i) i)
  unrolled n i l h =
      let k : n - (i - 1) ≡ suc (n - i) = omega arith in
      let j : i - 1 + 1 ≡ i = omega arith in
      rw (k, step (n - i) (i - 1), j)

  -- t is the table of the records from number i on, u what it is with record i - 1
  pub turn : (n i : ℕ) {t u : Table} → t ≡ gathered_from s section table (n - i) i → 0 < i → i ≤ n
      → u ≡ noted (record_at s section (i - 1)) t → u ≡ gathered_from s section table (n - (i - 1)) (i - 1)
  turn n i inv l h r = r ∙ rw inv (sym (unrolled n i l h))

  pub spent : (i : ℕ) {t : Table} → t ≡ gathered_from s section table (section.nindex - i) i → i ≤ 0 → t ≡ gathered s section table
  spent i inv l =
      let z : i ≡ 0 = omega arith in
      let e : section.nindex - 0 ≡ section.nindex = omega arith in
      inv ∙ rw (z, e)
