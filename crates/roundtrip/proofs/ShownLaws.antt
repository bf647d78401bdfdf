-- A structure whose records are a list's entries: look-ups find each entry (finds), a walk shows the list (all_shown), and
-- the first entry is found by its tag alone (first_number).
use Prim.Native.Nat.{ℕ, suc, ◌+◌, ◌≤◌, ◌<◌}
use mathlib.Core.Path.{◌≡◌, refl, ap, ◌∙◌}
use mathlib.Core.List.{List, [], ◌∷◌}
use lib.ListN.{length}
use native.Mathlib.Omega.{arith}
use borrow.Author.Tests.{eq-eqb}
use Rattle.std.specs.Prelude.{Some, Ok}
use Rattle.be.specs.Numbers.{be32_at}
use Rattle.format.specs.Sizes.{nindex_limit}
use Rattle.format.specs.declared.section.Section.{Section}
use Rattle.format.specs.declared.records.IndexRecord.{IndexRecord}
use Rattle.format.specs.Places.{record_place, in_file}
use Rattle.format.specs.Verdicts.{pass}
use Rattle.entries.specs.Entries.{record_at}
use Rattle.index.specs.Lookup.{entry_at, tagged_from, tagged_in}
use Rattle.package.specs.Package.{sound_check, structure_of}
use Rattle.lookups.specs.Lookup.{sought, sought_bytes}
use Rattle.lookups.proofs.FoundLaws.{found_of_record}
use Rattle.walk.specs.Theorems.{records_of}
use Rattle.walk.proofs.WalkLaws.{walk_visits_all}
use Rattle.tags.specs.Tags.{number_in, number_at}
use Rattle.lists.specs.Lists.{ListEntry}
use Rattle.reasons.specs.Reasons.{size_entry}
use Rattle.roundtrip.specs.Shown.{looked_up, all_looked_up, shown}
use Rattle.roundtrip.specs.Lawful.{nth}
use Rattle.roundtrip.specs.Theorems.{Finds}
use Rattle.roundtrip.proofs.HoldsLaws.{number}
use Rattle.roundtrip.proofs.RecordLaws.{Reads, bytes_read}

-- what is looked up of the records is the list, where it is so for each
looked : (p : List ℕ) (which : ℕ) (section : Section) (entries : List ListEntry) (i : ℕ)
    → ((k : ℕ) → k < length entries → looked_up p which (record_at p section (i + k)) ≡ nth entries k)
    → all_looked_up p which (records_of p section (length entries) i) ≡ entries
unfolding all_looked_up records_of
looked p which section [] i h = refl
looked p which section (entry ∷ rest) i h =
    let e : i + 0 ≡ i = omega arith in
    let first : looked_up p which (record_at p section i) ≡ entry = rw e at (h 0 (omega arith)) in
    let later = looked p which section rest (i + 1)
    (λ k l. let e : i + suc k ≡ i + 1 + k = omega arith in rw e at (h (suc k) (omega arith))) in
    rw (first, later)

module _ (p : List ℕ) (which : ℕ) (sound : sound_check p ≡ pass) (entries : List ListEntry)
    (count : (structure_of p which).nindex ≡ length entries)
    (reads : (k : ℕ) → k < length entries → Reads p (structure_of p which) k (nth entries k)) where
  abbrev section : Section
  section = structure_of p which

  found : (k : ℕ) → k < length entries
      → sought p which (nth entries k).tag (nth entries k).ty ≡ Ok (entry_at p section k)
  found k l =
      let r = (reads k l).read in
      found_of_record p which (nth entries k).tag (nth entries k).ty sound k
      (record {
        within = omega arith;
        tagged = ap (λ (e : IndexRecord). e.tag) r;
        typed = ap (λ (e : IndexRecord). e.ty) r;
      })

  pub finds : Finds p which entries
  finds k l = (
    ap (sought_bytes p) (found k l) ∙ bytes_read p section k (nth entries k) (reads k l),
    rw (found k l),
  )

  each : (k : ℕ) → k < length entries → looked_up p which (record_at p section k) ≡ nth entries k
  each k l = ap (looked_up p which) (reads k l).read ∙ rw (finds k l).0

  pub all_shown : length entries ≤ nindex_limit → shown p which ≡ entries
  all_shown l =
      ap (all_looked_up p which) (walk_visits_all p which nindex_limit sound (omega arith) ∙ rw count)
      ∙ looked p which section entries 0 (λ k m. let e : 0 + k ≡ k = omega arith in rw e (each k m))

-- a first record that has the tag
tagged_first : (s : List ℕ) (section : Section) (n tag : ℕ) → section.nindex ≡ suc n
    → be32_at s (record_place section 0) ≡ tag → tagged_in s section tag ≡ Some (record_at s section 0)
unfolding tagged_from
tagged_first s section n tag c h = rw (c, eq-eqb (be32_at s (record_place section 0)) tag h)

-- 1000 in front: the number under it
pub first_number : (p : List ℕ) (section : Section) (size n : ℕ) → size < 4294967296 → section.nindex ≡ suc n
    → Reads p section 0 (size_entry size) → number_in p section (tagged_in p section) 1000 ≡ size
first_number p section size n small c r =
    ap (number_at p section) (tagged_first p section n 1000 c (ap (λ (e : IndexRecord). e.tag) r.read))
    ∙ ap (λ (e : IndexRecord). be32_at p (in_file section e.offset)) r.read
    ∙ number size small r.stands
