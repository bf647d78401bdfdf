-- One entry of a structure that was written (placed): its index record is read as it was put and passes checks 9 to 13, its
-- data is the entry's, and the next entry's record and data stand behind them. The bytes that are read of it: bytes_read.
use Prim.Native.Nat.{ℕ, suc, ◌+◌, ◌-◌, ◌*◌, ◌%◌, ◌≤◌, ◌<◌}
use mathlib.Core.Path.{◌≡◌, refl, sym, ap, ◌∙◌}
use mathlib.Core.List.{List, ◌∷◌, ◌++◌}
use mathlib.Core.Bool.{Bool, true, false, cond, not, ◌||◌}
use lib.ListN.{length, length-replicate}
use lib.Dec.{eqb}
use native.Mathlib.Omega.{arith}
use native.Mathlib.Numerals.{add-one}
use borrow.Author.Tests.{eqb-true, eq-eqb, le-leb}
use Rattle.std.specs.Prelude.{Option, Some, None}
use Rattle.be.specs.Numbers.{be32_at}
use Rattle.strings.specs.Strings.{is_ended}
use Rattle.format.specs.declared.section.Section.{Section}
use Rattle.format.specs.declared.section.Structure.{Structure}
use Rattle.format.specs.declared.records.IndexRecord.{IndexRecord}
use Rattle.format.specs.Places.{record_place, store_place, align_up}
use Rattle.format.specs.Verdicts.{pass}
use Rattle.format.proofs.VerdictLaws.{passed}
use Rattle.repeats.specs.Repeats.{tag_before}
use Rattle.entries.specs.declared.types.ElementSize.{ElementSize}
use Rattle.entries.specs.declared.types.ElementSize.TheVariants.{Bytes, ToZero}
use Rattle.entries.specs.Types.{element_size}
use Rattle.entries.specs.Entries.{record_at, type_lawful, count_right, aligned_to, is_aligned, end_for, data_end}
use Rattle.entries.specs.Entries.{entry_check, record_check}
use Rattle.index.specs.Lookup.{entry_of, entry_at}
use Rattle.lookups.specs.Lookup.{entry_bytes}
use Rattle.put.specs.Puts.{zeros}
use Rattle.put.proofs.PutLaws.{length_four}
use Rattle.lists.specs.Lists.{ListEntry}
use Rattle.reasons.specs.Reasons.{record_of, ends_at, exact_for, data_exact, tag_in}
use Rattle.layout.specs.Layout.{align_for, offset_for, data_start, data_stop, record_bytes}
use Rattle.roundtrip.specs.Lawful.{WideEntry}
use Rattle.roundtrip.proofs.HoldsLaws.{Holds, front, rest, moved, part, four, strings}
use Rattle.reasons.proofs.RightLaws.{EntryRight}

-- data goes to a place at or after that up to which the store is filled, and is aligned there
aligned : (a b c d : Bool) (at : ℕ) (size : Option ElementSize)
    → cond a (Some (Bytes 1)) (cond b (Some (Bytes 2)) (cond c (Some (Bytes 4)) (cond d (Some ToZero) None))) ≡ size
    → (at ≤ align_for size at) × (aligned_to size (align_for size at) ≡ true)
aligned true b c d at size h = rw (← h) (omega arith, eq-eqb (align_up 1 at % 1) 0 (omega arith))
aligned false true c d at size h = rw (← h) (omega arith, eq-eqb (align_up 2 at % 2) 0 (omega arith))
aligned false false true d at size h = rw (← h) (omega arith, eq-eqb (align_up 4 at % 4) 0 (omega arith))
aligned false false false true at size h = rw (← h) (omega arith, refl)
aligned false false false false at size h = rw (← h) (omega arith, refl)

pub offset_right : (ty at : ℕ) → (at ≤ offset_for ty at) × (aligned_to (element_size ty) (offset_for ty at) ≡ true)
unfolding offset_for element_size
offset_right ty at =
    aligned (eqb ty 1 || eqb ty 2 || eqb ty 7) (eqb ty 3) (eqb ty 4) (eqb ty 6 || eqb ty 8 || eqb ty 9) at (element_size ty)
    refl

pub ends_exactly : (run : Option ℕ) (end : ℕ) → ends_at run end ≡ true → run ≡ Some end
ends_exactly (Some to) end h = ap Some (eqb-true _ _ h)
ends_exactly None end h = absurd cc

-- data that is exactly what type and count say ends where its bytes do
data_ends : (p : List ℕ) (section : Section) (entry : ListEntry) (offset : ℕ) (size : Option ElementSize)
    → exact_for size entry.count entry.bytes ≡ true → Holds p (store_place section + offset) entry.bytes
    → offset + length entry.bytes ≤ section.hsize
    → end_for size p section (record_of entry offset) ≡ Some (store_place section + offset + length entry.bytes)
data_ends p section entry offset (Some (Bytes n)) x h l =
    let e = eqb-true (n * entry.count) (length entry.bytes) x in
    rw (e, le-leb (offset + length entry.bytes) section.hsize l)
data_ends p section entry offset (Some ToZero) x h l =
    let size = length entry.bytes in
    let e : store_place section + offset + 0 ≡ store_place section + offset = omega arith in
    let s = ends_exactly _ _ x in
    rw e at (strings h size 0 entry.count size (section.hsize - offset) (omega arith) (omega arith) s)
data_ends p section entry offset None x h l = absurd cc

-- record i of a structure is an entry's, and its data is the entry's
pub record Reads (p : List ℕ) (section : Section) (i : ℕ) (entry : ListEntry) : Type 0 where
  pub offset : ℕ
  pub read : record_at p section i ≡ record_of entry offset
  pub stands : Holds p (store_place section + offset) entry.bytes
  pub ended : data_end p section (record_of entry offset) ≡ Some (store_place section + offset + length entry.bytes)

pub bytes_read : (p : List ℕ) (section : Section) (i : ℕ) (entry : ListEntry) → Reads p section i entry
    → entry_bytes p (entry_at p section i) ≡ entry.bytes
bytes_read p section i entry r =
    let from = store_place section + r.offset in
    let e : from + length entry.bytes - from ≡ length entry.bytes = omega arith in
    ap (λ (e : IndexRecord). entry_bytes p (entry_of section e (data_end p section e))) r.read
    ∙ rw (r.ended, e) (part r.stands)

-- the tags of the records up to the next
tag_step : (s : List ℕ) (section : Section) (i tag : ℕ)
    → tag_before s section (suc i) tag ≡ (eqb (be32_at s (record_place section i)) tag || tag_before s section i tag)
unfolding tag_before
tag_step s section i tag = refl

pub in_step : (tag first : ℕ) (seen : List ℕ) → tag_in tag (first ∷ seen) ≡ (eqb first tag || tag_in tag seen)
unfolding tag_in
in_step tag first seen = refl

count_same : (structure : Structure) (entry : ListEntry) (offset : ℕ)
    → count_right structure (record_of entry offset) ≡ count_right structure (record_of entry 0)
unfolding count_right
count_same structure entry offset = refl

entry_pass : (structure : Structure) (s : List ℕ) (section : Section) (i place : ℕ) (e : IndexRecord) (end : Option ℕ)
    → type_lawful e ≡ true → count_right structure e ≡ true → is_aligned e ≡ true → is_ended end ≡ true
    → tag_before s section i e.tag ≡ false
    → entry_check structure s section i place e end ≡ pass
unfolding entry_check
entry_pass structure s section i place e end a b c d f =
    sym (passed _ _ a (passed _ _ b (passed _ _ c (passed _ _ d (passed _ _ (ap not f) refl)))))

-- what an entry gives whose record stands at place i of the index, and its data behind what fills the store up to a place:
-- it passes and reads so, and what is left of the index and the store stands where the next entry's record and data go
pub record Placed (structure : Structure) (p : List ℕ) (section : Section) (entry : ListEntry) (seen index store : List ℕ)
    (i filled : ℕ) : Type 0 where
  pub passes : record_check structure p section i ≡ pass
  pub reads : Reads p section i entry
  pub indexed : Holds p (record_place section (i + 1)) index
  pub stored : Holds p (store_place section + data_stop filled entry) store
  pub tags : (tag : ℕ) → tag_before p section (i + 1) tag ≡ tag_in tag (entry.tag ∷ seen)

module _ (structure : Structure) (p : List ℕ) (section : Section) (small : section.hsize < 4294967296) (entry : ListEntry)
    (seen index store : List ℕ) (i filled : ℕ) (right : EntryRight structure seen entry) (wide : WideEntry entry)
    (indexed : Holds p (record_place section i) (record_bytes (record_of entry (data_start filled entry)) ++ index))
    (stored : Holds p (store_place section + filled) (zeros (data_start filled entry - filled) ++ (entry.bytes ++ store)))
    (fits : data_stop filled entry ≤ section.hsize) (tags : (tag : ℕ) → tag_before p section i tag ≡ tag_in tag seen) where
  abbrev offset : ℕ
  offset = data_start filled entry

  read : record_at p section i ≡ record_of entry offset
  read =
      let f =
      four entry.tag entry.ty offset entry.count wide.0 wide.1 (omega arith) wide.2
      (front (record_bytes (record_of entry offset)) index indexed) in
      rw (f.first, f.second, f.third, f.fourth)

  stands : Holds p (store_place section + offset) (entry.bytes ++ store)
  stands =
      let e = length-replicate {A = ℕ} (offset - filled) 0 in
      let g = (offset_right entry.ty filled).0 in
      moved (omega arith) (rest (zeros (offset - filled)) (entry.bytes ++ store) stored)

  ended : data_end p section (record_of entry offset) ≡ Some (store_place section + offset + length entry.bytes)
  unfolding data_end data_exact
  ended =
      data_ends p section entry offset (element_size entry.ty) right.exact (front entry.bytes store stands) fits

  passes : record_check structure p section i ≡ pass
  passes =
      ap (λ (e : IndexRecord). entry_check structure p section i (record_place section i) e (data_end p section e)) read
      ∙ entry_pass structure p section i (record_place section i) (record_of entry offset) _ right.typed
      (count_same structure entry offset ∙ right.counted) (offset_right entry.ty filled).1 (ap is_ended ended)
      (tags entry.tag ∙ right.fresh)

  next_tags : (tag : ℕ) → tag_before p section (i + 1) tag ≡ tag_in tag (entry.tag ∷ seen)
  next_tags tag =
      let t : be32_at p (record_place section i) ≡ entry.tag = ap (λ (e : IndexRecord). e.tag) read in
      rw (add-one i) (tag_step p section i tag ∙ rw (t, tags tag) (sym (in_step tag entry.tag seen)))

  pub placed : Placed structure p section entry seen index store i filled
  placed =
      let e = length_four entry.tag entry.ty offset entry.count in
      record {
        passes = passes;
        reads = record { offset = offset; read = read; stands = front entry.bytes store stands; ended = ended };
        indexed = moved (omega arith) (rest (record_bytes (record_of entry offset)) index indexed);
        stored = moved (omega arith) (rest entry.bytes store stands);
        tags = next_tags;
      }
