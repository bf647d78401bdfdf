-- A structure that was written, wherever it stands in a list: it passes checks 5 to 13, its records are the entries', in
-- order, and it ends where its bytes do (structure_read).
use Prim.Native.Nat.{ℕ, zero, suc, ◌+◌, ◌-◌, ◌*◌, ◌≤◌, ◌<◌}
use mathlib.Core.Path.{◌≡◌, refl, sym, ap, ◌∙◌}
use mathlib.Core.List.{List, [], ◌∷◌, ◌++◌}
use lib.ListN.{length, length-append, length-replicate}
use native.Mathlib.Omega.{arith}
use borrow.Author.Tests.{le-leb}
use Rattle.format.specs.Sizes.{nindex_limit}
use Rattle.format.specs.declared.section.Section.{Section}
use Rattle.format.specs.declared.section.Structure.{Structure}
use Rattle.format.specs.Places.{record_place, store_place, section_end}
use Rattle.format.specs.Records.{header_record_at}
use Rattle.format.specs.Verdicts.{run_from, pass}
use Rattle.format.proofs.VerdictLaws.{passed, both_pass}
use Rattle.format.proofs.RunLaws as run
use Rattle.repeats.specs.Repeats.{tag_before}
use Rattle.entries.specs.Entries.{record_check}
use Rattle.structure.specs.Structure.{section_of, section_at, header_check, records_check, structure_check}
use Rattle.put.specs.Puts.{zeros}
use Rattle.put.proofs.PutLaws.{length_four}
use Rattle.lists.specs.Lists.{ListEntry}
use Rattle.reasons.specs.Reasons.{tag_in, entries_reasons}
use Rattle.layout.specs.Layout.{data_start, data_stop, index_from, store_from, header_bytes, structure_bytes}
use Rattle.layout.proofs.StructureLaws.{index_step, store_step, index_length, structure_length}
use Rattle.roundtrip.specs.Lawful.{nth, Wide}
use Rattle.roundtrip.proofs.HoldsLaws.{Holds, front, rest, moved, within, four}
use Rattle.reasons.proofs.RightLaws.{entries_right, ListRight}
use Rattle.roundtrip.proofs.RecordLaws.{offset_right, Reads, placed}

-- the records from place i of the index on are a list's entries
abbrev ReadsFrom : List ℕ → Section → ℕ → List ListEntry → Type 0
ReadsFrom p section i entries = (k : ℕ) → k < length entries → Reads p section (i + k) (nth entries k)

-- how much of the store is left to fill
store_room : (filled : ℕ) (entry : ListEntry) (rest : List ListEntry)
    → filled + length (store_from filled (entry ∷ rest))
    ≡ data_stop filled entry + length (store_from (data_stop filled entry) rest)
store_room filled entry rest =
    let g = (offset_right entry.ty filled).0 in
    let store = store_from (data_stop filled entry) rest in
    let a = length-append (zeros (data_start filled entry - filled)) (entry.bytes ++ store) in
    let b = length-append entry.bytes store in
    let c = length-replicate {A = ℕ} (data_start filled entry - filled) 0 in
    rw (store_step filled entry rest) (omega arith)

reads_step : (p : List ℕ) (section : Section) (i : ℕ) (entry : ListEntry) (rest : List ListEntry) → Reads p section i entry
    → ReadsFrom p section (i + 1) rest → ReadsFrom p section i (entry ∷ rest)
reads_step p section i entry rest h f zero l = let e : i + 0 ≡ i = omega arith in rw e h
reads_step p section i entry rest h f (suc k) l = let e : i + suc k ≡ i + 1 + k = omega arith in rw e (f k (omega arith))

-- the entries whose records stand from place i of the index on, and their data behind what fills the store up to a place
module _ (structure : Structure) (p : List ℕ) (section : Section) (small : section.hsize < 4294967296) where
  records : (entries : List ListEntry) (seen : List ℕ) (i filled : ℕ)
      → entries_reasons structure seen entries ≡ pass → Wide entries
      → Holds p (record_place section i) (index_from filled entries)
      → Holds p (store_place section + filled) (store_from filled entries)
      → filled + length (store_from filled entries) ≡ section.hsize
      → ((tag : ℕ) → tag_before p section i tag ≡ tag_in tag seen)
      → (run_from (record_check structure p section) (length entries) i ≡ pass) × ReadsFrom p section i entries
  records [] seen i filled h w hi hs r t = (run.none _ i, λ k l. absurd (omega arith))
  records (entry ∷ rest) seen i filled h w hi hs r t =
      let k = (entries_right structure seen entry rest).0 h in
      let index = index_from (data_stop filled entry) rest in
      let store = store_from (data_stop filled entry) rest in
      let room = store_room filled entry rest in
      let fits : data_stop filled entry ≤ section.hsize = omega arith in
      let hi' = rw (index_step filled entry rest) at hi in
      let hs' = rw (store_step filled entry rest) at hs in
      let one =
      placed structure p section small entry seen index store i filled k.0 (w 0 (omega arith)) hi' hs' fits t in
      let later =
      records rest (entry.tag ∷ seen) (i + 1) (data_stop filled entry) k.1 (λ j l. w (suc j) (omega arith))
      one.indexed one.stored (omega arith) one.tags in (
        run.first _ (length rest) i ∙ both_pass one.passes ∙ later.0,
        reads_step p section i entry rest one.reads later.1,
      )

header_pass : (len start nindex hsize : ℕ) → 1 ≤ nindex → nindex ≤ nindex_limit
    → start + 16 + 16 * nindex + hsize ≤ len
    → header_check len start (record { magic = 0x8EADE801; reserved = 0; nindex = nindex; hsize = hsize }) ≡ pass
unfolding header_check
header_pass len start nindex hsize a b c =
    sym (passed _ _ (le-leb _ _ (let l : start + 16 ≤ len = omega arith in l))
    (passed _ _ refl
    (passed _ _ refl
    (passed _ _ (le-leb _ _ a)
    (passed _ _ (le-leb _ _ b)
    (passed _ _ (le-leb _ _ c)
    refl))))))

no_tags : (p : List ℕ) (section : Section) (tag : ℕ) → tag_before p section 0 tag ≡ tag_in tag []
unfolding tag_before tag_in
no_tags p section tag = refl

-- a structure as it is read: it passes checks 5 to 13, its records are the entries', and it ends where its bytes do
pub record StructureRead (structure : Structure) (p : List ℕ) (start : ℕ) (entries : List ListEntry) : Type 0 where
  pub passes : structure_check structure p (length p) start ≡ pass
  pub count : (section_at p start).nindex ≡ length entries
  pub reads : (k : ℕ) → k < length entries → Reads p (section_at p start) k (nth entries k)
  pub end : section_end (section_at p start) ≡ start + length (structure_bytes entries)

module _ (structure : Structure) (p : List ℕ) (start : ℕ) (entries : List ListEntry) (right : ListRight structure entries)
    (wide : Wide entries) (small : length (store_from 0 entries) < 4294967296) (h : Holds p start (structure_bytes entries)) where
  abbrev section : Section
  section = record { start = record { 0 = start }; nindex = length entries; hsize = length (store_from 0 entries) }

  abbrev head : List ℕ
  head = header_bytes (length entries) (length (store_from 0 entries))

  parts : Holds p start (head ++ (index_from 0 entries ++ store_from 0 entries))
  unfolding structure_bytes
  parts = h

  header_read : header_record_at p start
      ≡ record { magic = 0x8EADE801; reserved = 0; nindex = length entries; hsize = length (store_from 0 entries) }
  header_read =
      let w = right.within in
      let f =
      four 0x8EADE801 0 (length entries) (length (store_from 0 entries)) (omega arith) (omega arith) (omega arith) small
      (front head (index_from 0 entries ++ store_from 0 entries) parts) in
      rw (f.first, f.second, f.third, f.fourth)

  section_read : section_at p start ≡ section
  section_read = ap (section_of start) header_read

  behind_head : Holds p (start + 16) (index_from 0 entries ++ store_from 0 entries)
  behind_head =
      let e = length_four 0x8EADE801 0 (length entries) (length (store_from 0 entries)) in
      moved (omega arith) (rest head (index_from 0 entries ++ store_from 0 entries) parts)

  store : Holds p (store_place section + 0) (store_from 0 entries)
  store =
      let e = index_length 0 entries in
      moved (omega arith) (rest (index_from 0 entries) (store_from 0 entries) behind_head)

  both_read : (run_from (record_check structure p section) (length entries) 0 ≡ pass) × ReadsFrom p section 0 entries
  both_read =
      records structure p section small entries [] 0 0 right.each wide
      (moved (omega arith) (front (index_from 0 entries) (store_from 0 entries) behind_head)) store (omega arith)
      (no_tags p section)

  passes : structure_check structure p (length p) start ≡ pass
  unfolding structure_check
  passes =
      let w = within store in
      let a =
      header_pass (length p) start (length entries) (length (store_from 0 entries)) right.some right.within
      (omega arith) in
      both_pass (ap (header_check (length p) start) header_read ∙ a)
      ∙ ap (λ (x : Section). records_check structure p x) section_read ∙ both_read.0

  pub structure_read : StructureRead structure p start entries
  structure_read =
      let e = structure_length entries in
      record {
        passes = passes;
        count = ap (λ (x : Section). x.nindex) section_read;
        reads = λ k l. let e : 0 + k ≡ k = omega arith in rw section_read (rw e at (both_read.1 k l));
        end = ap section_end section_read ∙ omega arith;
      }
