-- The records, from the numbers that were read: header_read, index_read, index_read_at. Whether a package has a record
-- whole: cut, held, whole, number_whole. What was read at a record's place: record_placed, number_placed, number_read.
use Prim.Native.Nat.{ℕ, ◌+◌, ◌≤◌, ◌<◌}
use mathlib.Core.Path.{◌≡◌, sym, ap, ◌∙◌}
use mathlib.Core.List.{List}
use mathlib.Core.Bool.{Bool, true, false, ◌&&◌}
use lib.ListN.{length}
use lib.Dec.{leb, ltb}
use native.Mathlib.Omega.{arith}
use native.Mathlib.Nat.{add-zero}
use borrow.Author.Tests.{le-leb, lt-leb, leb-true, ltb-true}
use Rattle.be.specs.Numbers.{be32_at}
use Rattle.places.specs.declared.StoreOffset.{StoreOffset}
use Rattle.format.specs.declared.records.HeaderRecord.{HeaderRecord}
use Rattle.format.specs.declared.records.IndexRecord.{IndexRecord}
use Rattle.format.specs.declared.section.Section.{Section}
use Rattle.format.specs.Records.{header_record_at, index_record_at}
use Rattle.format.specs.Sizes.{index_record_size}
use Rattle.format.specs.Places.{record_place}

module _ (s : List ℕ) (at : ℕ) {a b c d : ℕ} where
  pub header_read : a ≡ be32_at s (at + 0) → b ≡ be32_at s (at + 4) → c ≡ be32_at s (at + 8) → d ≡ be32_at s (at + 12)
      → ◌≡◌ {A = HeaderRecord} (record { magic = a; reserved = b; nindex = c; hsize = d }) (header_record_at s at)
  header_read p q r t = rw (p, q, r, t, add-zero)

  pub index_read : {offset : StoreOffset} → a ≡ be32_at s (at + 0) → b ≡ be32_at s (at + 4) → c ≡ be32_at s (at + 8)
      → offset.0 ≡ c → d ≡ be32_at s (at + 12)
      → ◌≡◌ {A = IndexRecord} (record { tag = a; ty = b; offset = offset; count = d }) (index_record_at s at)
  index_read p q r o t = rw (p, q, o, r, t, add-zero)

  -- n is the number of the place
  pub index_read_at : {n : ℕ} {offset : StoreOffset} → n ≡ at → a ≡ be32_at s (n + 0) → b ≡ be32_at s (n + 4)
      → c ≡ be32_at s (n + 8) → offset.0 ≡ c → d ≡ be32_at s (n + 12)
      → ◌≡◌ {A = IndexRecord} (record { tag = a; ty = b; offset = offset; count = d }) (index_record_at s at)
  index_read_at e p q r o t = rw (p, q, o, r, t, e, add-zero)

and_both : (a b : Bool) → (a && b) ≡ true → (a ≡ true) × (b ≡ true)
and_both true true h = (h, h)
and_both true false h = let z : ◌≡◌ {A = ℕ} 0 1 = cc in absurd (omega arith)
and_both false b h = let z : ◌≡◌ {A = ℕ} 0 1 = cc in absurd (omega arith)

-- whether a package has the first n records whole and record i is one of them
module _ (s : List ℕ) (section : Section) (n i : ℕ) where
  module _ {end at : ℕ} (e : end ≡ record_place section n) (g : at ≡ end) where
    pub cut : length s < at → false ≡ (leb (record_place section n) (length s) && ltb i n)
    cut h = rw (lt-leb (record_place section n) (length s) (omega arith))

    pub held : at ≤ length s → ltb i n ≡ (leb (record_place section n) (length s) && ltb i n)
    held h = rw (le-leb (record_place section n) (length s) (omega arith))

  module _ {place : ℕ} {r : Bool} (e : place ≡ record_place section i)
      (p : r ≡ (leb (record_place section n) (length s) && ltb i n)) (h : r ≡ true) where
    pub whole : place + index_record_size ≤ length s
    whole =
        let k = and_both (leb (record_place section n) (length s)) (ltb i n) (sym p ∙ h) in
        let l = leb-true (record_place section n) (length s) k.0 in
        let m = ltb-true i n k.1 in
        omega arith

-- what was read at a record's place
pub record_placed : (s : List ℕ) (section : Section) (i : ℕ) {place : ℕ} {r : IndexRecord} → place ≡ record_place section i
    → r ≡ index_record_at s place → r ≡ index_record_at s (record_place section i)
record_placed s section i e p = p ∙ ap (index_record_at s) e

-- and k bytes behind it; m is the number of the record's place
module _ (s : List ℕ) (section : Section) (n i k : ℕ) {start : ℕ} (e : start ≡ record_place section i) where
  pub number_whole : {r : Bool} {m : ℕ} → r ≡ (leb (record_place section n) (length s) && ltb i n) → r ≡ true → k ≤ 12
      → m ≡ start → m + k + 4 ≤ length s
  number_whole p h b q = let l = whole s section n i e p h in omega (arith, l)

  pub number_placed : {v : ℕ} → v ≡ be32_at s (start + k) → v ≡ be32_at s (record_place section i + k)
  number_placed p = p ∙ ap (λ (x : ℕ). be32_at s (x + k)) e

  pub number_read : {m v : ℕ} → m ≡ start → v ≡ be32_at s (m + k) → v ≡ be32_at s (record_place section i + k)
  number_read q p = number_placed (p ∙ ap (λ (x : ℕ). be32_at s (x + k)) q)
