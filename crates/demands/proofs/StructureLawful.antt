-- Checks 5 to 13 of a structure are what the rules say of it: structure_lawful. The data of a record of a lawful one:
-- entry_sound.
use Prim.Native.Nat.{ℕ, ◌<◌}
use mathlib.Core.Path.{◌≡◌, refl, sym, ap, ◌∙◌}
use mathlib.Core.Logic.{◌↔◌, ◌≢◌}
use mathlib.Core.List.{List}
use mathlib.Core.Bool.{not}
use lib.ListN.{length}
use native.Mathlib.Omega.{arith}
use borrow.Author.Tests.{eq-eqb, le-leb, not-true}
use Rattle.format.specs.declared.section.Section.{Section}
use Rattle.format.specs.declared.section.Structure.{Structure}
use Rattle.format.specs.declared.records.HeaderRecord.{HeaderRecord}
use Rattle.format.specs.Records.{header_record_at}
use Rattle.format.proofs.VerdictLaws.{passed, inverted, both_pass}
use Rattle.format.proofs.FirstLaws.{run_passes}
use Rattle.entries.specs.Entries.{record_at, entry_check, record_check}
use Rattle.structure.specs.Structure.{section_at, header_check, structure_check}
use Rattle.index.specs.Lookup.{entry_at}
use Rattle.structure.specs.Sound.{SoundHeader, SoundEntry}
use Rattle.structure.proofs.PassLaws.{structure_header, structure_record}
use Rattle.structure.proofs.SoundLaws.{record_sound}
use Rattle.demands.specs.Lawful.{LawfulRecord, LawfulStructure}
use Rattle.demands.proofs.RecordLawful.{record_lawful, tags_lawful}
use Rattle.format.specs.Verdicts.{pass}

-- 5 to 8
header_passes : (len start : ℕ) (h : HeaderRecord) → SoundHeader len start h → header_check len start h ≡ pass
unfolding header_check
header_passes len start h k =
    sym (passed _ _ (le-leb _ _ k.room)
    (passed _ _ (eq-eqb _ _ k.magic)
    (passed _ _ (eq-eqb _ _ k.reserved)
    (passed _ _ (le-leb _ _ k.some)
    (passed _ _ (le-leb _ _ k.within)
    (passed _ _ (le-leb _ _ k.fits)
    refl))))))

module _ (structure : Structure) (s : List ℕ) (section : Section) where
  -- 9 to 13 of record i
  entry_lawful : (i : ℕ) → (record_check structure s section i ≡ pass)
      ↔ (LawfulRecord structure s section (record_at s section i)
      × ((j : ℕ) → j < i → (record_at s section j).tag ≢ (record_at s section i).tag))
  unfolding entry_check
  entry_lawful i =
      let e = record_at s section i in (
        λ h.
            let k9 = inverted _ _ _ _ h in
            let k10 = inverted _ _ _ _ k9.1 in
            let k11 = inverted _ _ _ _ k10.1 in
            let k12 = inverted _ _ _ _ k11.1 in
            let k13 = inverted _ _ _ _ k12.1 in (
              (record_lawful structure s section e).0 (k9.0, k10.0, k11.0, k12.0),
              (tags_lawful s section i e.tag).0 (not-true _ k13.0),
            ),
        λ h.
            let k = (record_lawful structure s section e).1 h.0 in
            let t = (tags_lawful s section i e.tag).1 h.1 in
            sym (passed _ _ k.0 (passed _ _ k.1 (passed _ _ k.2 (passed _ _ k.3 (passed _ _ (ap not t) refl))))),
      )

module _ (structure : Structure) (s : List ℕ) (start : ℕ) where
  structure_rules : structure_check structure s (length s) start ≡ pass → LawfulStructure structure s start
  structure_rules h =
      record {
        header = structure_header structure s (length s) start h;
        records = λ i l. ((entry_lawful structure s (section_at s start) i).0 (structure_record structure s (length s) start h i l)).0;
        tags = λ i j l. ((entry_lawful structure s (section_at s start) i).0 (structure_record structure s (length s) start h i l)).1 j;
      }

  record_passes : LawfulStructure structure s start → (i : ℕ) → i < (section_at s start).nindex
      → record_check structure s (section_at s start) i ≡ pass
  record_passes h i l = (entry_lawful structure s (section_at s start) i).1 (h.records i l, λ j m. h.tags i j l m)

  -- the data of a record
  pub entry_sound : LawfulStructure structure s start → (i : ℕ) → i < (section_at s start).nindex
      → SoundEntry s (length s) (entry_at s (section_at s start) i)
  entry_sound h i l = record_sound structure s (length s) (section_at s start) i h.header.fits (record_passes h i l)

  structure_passes : LawfulStructure structure s start → structure_check structure s (length s) start ≡ pass
  unfolding structure_check
  structure_passes h =
      both_pass (header_passes (length s) start (header_record_at s start) h.header)
      ∙ (run_passes _ _ 0).1 (λ k l m. record_passes h k (omega arith))

  pub structure_lawful : (structure_check structure s (length s) start ≡ pass) ↔ LawfulStructure structure s start
  structure_lawful = (structure_rules, structure_passes)
