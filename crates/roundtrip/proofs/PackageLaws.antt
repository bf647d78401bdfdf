-- The package of a name and two lists of entries that may be written: where its parts stand, that it passes checks 2 to 13,
-- 16, 27 and 28, and that all of it is read back (reads_back).
use Prim.Native.Nat.{ℕ, suc, ◌+◌, ◌-◌, ◌≤◌, ◌<◌}
use mathlib.Core.Path.{◌≡◌, refl, sym, ap, subst, ◌∙◌}
use mathlib.Core.Logic.{◌≢◌}
use mathlib.Core.List.{List, ◌∷◌, ◌++◌}
use lib.ListN.{length, drop, get_or, length-append, length-drop, length-replicate, get_or-replicate}
use lib.Seq.{take_all}
use native.Mathlib.Omega.{arith}
use borrow.Author.Tests.{le-leb, eq-eqb, ne_eqb}
use Rattle.be.proofs.SameLaws.{same_refl}
use Rattle.format.specs.Sizes.{lead_size}
use Rattle.format.specs.declared.section.Section.{Section}
use Rattle.format.specs.declared.section.Structure.TheVariants.{Signature, Header}
use Rattle.format.specs.Places.{section_end, align_up}
use Rattle.format.specs.Verdicts.{pass}
use Rattle.format.proofs.VerdictLaws.{passed, both_pass}
use Rattle.structure.specs.Structure.{section_at, structure_check}
use Rattle.index.specs.Lookup.{tagged_in}
use Rattle.gap.proofs.OrderLaws.{gap_pass}
use Rattle.package.specs.Package.{size_check, gap_in, structures_check, package_check, sound_check}
use Rattle.package.specs.Package.{signature_at, header_at, header_start, structure_of}
use Rattle.rules.specs.Rules.{size_tag_check}
use Rattle.message_digest.specs.Md5.{digest}
use Rattle.message_digest.proofs.DigestLaws.{digest_length}
use Rattle.verify.specs.Digests.{stated_in, from_header, digest_check}
use Rattle.verify.proofs.ShownLaws.{digest_shown}
use Rattle.put.specs.Puts.{bytes_of}
use Rattle.lists.specs.Lists.{ListEntry}
use Rattle.reasons.specs.Reasons.{size_entry, digest_entry}
use Rattle.layout.specs.Layout.{structure_bytes, signature_of, lead_bytes, gap_bytes, written}
use Rattle.layout.proofs.LeadLaws.{lead_length}
use Rattle.layout.proofs.StructureLaws.{structure_length}
use Rattle.roundtrip.specs.Lawful.{nth, Wide}
use Rattle.roundtrip.specs.Theorems.{Finds, with_own_of, ReadsBack}
use Rattle.roundtrip.proofs.HoldsLaws.{Holds, all, front, rest, moved, byte, part, within}
use Rattle.reasons.proofs.RightLaws.{ListRight, own_right}
use Rattle.roundtrip.proofs.ReasonLaws.{Writable}
use Rattle.roundtrip.proofs.RecordLaws.{Reads}
use Rattle.roundtrip.proofs.StructureLaws.{StructureRead, structure_read}
use Rattle.roundtrip.proofs.LeadLaws.{lead_pass, lead_name}
use Rattle.roundtrip.proofs.LentLaws.{wide_step}
use Rattle.roundtrip.proofs.ShownLaws.{finds, all_shown, first_number}

module _ (name : List ℕ) (signature header : List ListEntry) (w : Writable name signature header) where
  abbrev p : List ℕ
  p = written name signature header

  abbrev entries : List ListEntry
  entries = signature_of signature header

  -- where the signature ends, and where the header starts
  abbrev end : ℕ
  end = lead_size + length (structure_bytes entries)

  abbrev start : ℕ
  start = align_up 8 end

  parts : Holds p 0 (lead_bytes name ++ (structure_bytes entries ++ (gap_bytes end ++ structure_bytes header)))
  unfolding written
  parts = all p

  lead_here : Holds p 0 (lead_bytes name)
  lead_here = front (lead_bytes name) _ parts

  behind_lead : Holds p lead_size (structure_bytes entries ++ (gap_bytes end ++ structure_bytes header))
  behind_lead = let e = lead_length name in moved (omega arith) (rest (lead_bytes name) _ parts)

  signature_here : Holds p lead_size (structure_bytes entries)
  signature_here = front (structure_bytes entries) _ behind_lead

  gap_length : length (gap_bytes end) ≡ start - end
  gap_length = length-replicate {A = ℕ} (start - end) 0

  behind_signature : Holds p end (gap_bytes end ++ structure_bytes header)
  behind_signature = rest (structure_bytes entries) _ behind_lead

  gap_here : Holds p end (gap_bytes end)
  gap_here = front (gap_bytes end) (structure_bytes header) behind_signature

  header_here : Holds p start (structure_bytes header)
  header_here = let e = gap_length in moved (omega arith) (rest (gap_bytes end) (structure_bytes header) behind_signature)

  whole : length p ≡ start + length (structure_bytes header)
  unfolding written
  whole =
      let a = gap_length in
      let b = lead_length name in
      let c = length-append (lead_bytes name) (structure_bytes entries ++ (gap_bytes end ++ structure_bytes header)) in
      let d = length-append (structure_bytes entries) (gap_bytes end ++ structure_bytes header) in
      let e = length-append (gap_bytes end) (structure_bytes header) in
      omega arith

  -- what stands from H to the end is the header, and this is its digest
  from_start : drop start p ≡ structure_bytes header
  from_start =
      let a = whole in
      sym (take_all (length (structure_bytes header)) (drop start p) (omega (arith, length-drop start p))) ∙ part header_here

  abbrev digested : List ℕ
  digested = digest (structure_bytes header)

  sixteen : length digested ≡ 16
  sixteen = digest_length (structure_bytes header)

  -- 1000 and 1004 with their data are as right as with any
  entries_right : ListRight Signature entries
  unfolding signature_of
  entries_right = own_right (length (structure_bytes header)) digested signature sixteen w.signed

  entries_wide : Wide entries
  unfolding signature_of bytes_of
  entries_wide =
      let h = sixteen in
      wide_step (size_entry (length (structure_bytes header))) (digest_entry digested ∷ signature)
      (omega arith, omega arith, omega arith, omega arith)
      (wide_step (digest_entry digested) signature (omega arith, omega arith, omega arith, omega arith) w.wide_signed)

  signature_read : StructureRead Signature p lead_size entries
  signature_read =
      let a = w.limit in
      let b = structure_length entries in
      let c = within signature_here in
      structure_read Signature p lead_size entries entries_right entries_wide (omega arith) signature_here

  header_read : StructureRead Header p start header
  header_read =
      let a = w.limit in
      let b = structure_length header in
      let c = within header_here in
      structure_read Header p start header w.headed w.wide_headed (omega arith) header_here

  header_start_lem : header_start (signature_at p) ≡ start
  header_start_lem = ap (align_up 8) signature_read.end

  header_at_lem : header_at p ≡ section_at p start
  header_at_lem = ap (section_at p) header_start_lem

  size_pass : size_check (length p) ≡ pass
  unfolding size_check
  size_pass =
      let e = whole in
      sym (passed _ _ (le-leb _ _ w.limit)
      (passed _ _ (le-leb _ _ (let l : lead_size ≤ length p = omega arith in l))
      refl))

  -- the bytes between the signature's end and H are those zero bytes
  gap_zero : (i : ℕ) → end ≤ i → i < start → get_or p i 0 ≡ 0
  gap_zero i a b =
      let n = gap_length in
      let e : end + (i - end) ≡ i = omega arith in
      rw e at (byte gap_here (i - end) (omega arith)) ∙ get_or-replicate (start - end) (i - end) 0 0 (omega arith)

  gap_passes : gap_in p (length p) ≡ pass
  gap_passes = rw signature_read.end ((gap_pass p (length p) end start).1 (λ i g. gap_zero i g.after g.before))

  sound : sound_check p ≡ pass
  unfolding package_check structures_check
  sound =
      both_pass size_pass ∙ both_pass (lead_pass name w.named p lead_here)
      ∙ both_pass signature_read.passes ∙ both_pass gap_passes
      ∙ ap (structure_check Header p (length p)) header_start_lem ∙ header_read.passes

  size_is : length p - header_start (signature_at p) ≡ length (structure_bytes header)
  size_is = let a = whole in let b = header_start_lem in omega arith

  digest_is : digest (drop (header_start (signature_at p)) p) ≡ digested
  digest_is = ap (λ (k : ℕ). digest (drop k p)) header_start_lem ∙ ap digest from_start

  with_own_lem : with_own_of p signature ≡ entries
  unfolding signature_of
  with_own_lem = rw (size_is, digest_is)

  module _ (which : ℕ) (n : which ≢ 0) where
    other : structure_of p which ≡ section_at p start
    other = rw (ne_eqb which 0 n) header_at_lem

    header_count : (structure_of p which).nindex ≡ length header
    header_count = ap (λ (x : Section). x.nindex) other ∙ header_read.count

    header_reads : (k : ℕ) → k < length header → Reads p (structure_of p which) k (nth header k)
    header_reads k l = rw other (header_read.reads k l)

  size_tag_lem : size_tag_check p (length p) (signature_at p) (header_at p) (tagged_in p (signature_at p)) ≡ pass
  unfolding size_tag_check signature_of
  size_tag_lem =
      let e = whole in
      let l = w.limit in
      let r = signature_read.reads 0 (omega arith) in
      let size = length (structure_bytes header) in
      let k = first_number p (signature_at p) size (suc (length signature)) (omega arith) signature_read.count r in
      sym (passed _ _ (eq-eqb _ _ (k ∙ sym size_is)) refl)

  digest_passes : digest_check p (signature_at p) (header_at p) ≡ pass
  unfolding digest_check signature_of
  digest_passes =
      let stated : stated_in p (signature_at p) ≡ digested =
      digest_shown p sound ∙ (finds p 0 sound entries signature_read.count signature_read.reads 1 (omega arith)).0 in
      let found : digest (from_header p (header_at p)) ≡ digested =
      ap (λ (x : Section). digest (from_header p x)) header_at_lem ∙ ap digest from_start in
      sym (passed _ _ (rw (stated, found) (same_refl digested)) refl)

  empty : section_end (header_at p) ≡ length p
  empty = ap section_end header_at_lem ∙ header_read.end ∙ sym whole

  pub reads_back : ReadsBack p name signature header
  reads_back =
      record {
        sound = sound;
        gap = rw signature_read.end gap_zero;
        signed =
            all_shown p 0 sound entries signature_read.count signature_read.reads entries_right.within
            ∙ sym with_own_lem;
        headed = λ which n.
            all_shown p which sound header (header_count which n) (header_reads which n) w.headed.within;
        signed_found =
            subst (λ (x : List ListEntry). Finds p 0 x) (sym with_own_lem)
            (finds p 0 sound entries signature_read.count signature_read.reads);
        headed_found = λ which n. finds p which sound header (header_count which n) (header_reads which n);
        sized = size_tag_lem;
        digested = digest_passes;
        named = lead_name name w.named p lead_here;
        empty = empty;
      }
