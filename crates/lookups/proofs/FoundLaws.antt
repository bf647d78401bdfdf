-- Each structure of a package that passed checks 2 to 13 and 28: structure_fits_lem, record_passed, entry_sound. What a look-up
-- finds is the entry of the record with the tag and the type, and sound: record_of_found, found_of_record, found_sound.
use Prim.Native.Nat.{ℕ, ◌≤◌, ◌<◌}
use mathlib.Core.Path.{◌≡◌, refl, sym, ap, ◌∙◌}
use mathlib.Core.List.{List}
use mathlib.Core.Bool.{Bool, true, false, cond}
use lib.Dec.{eqb}
use lib.ListN.{length}
use native.Mathlib.Omega.{arith}
use Rattle.format.specs.declared.section.Structure.TheVariants.{Signature, Header}
use Rattle.format.specs.Sizes.{lead_size}
use Rattle.format.specs.Places.{section_end}
use Rattle.index.specs.declared.Entry.{Entry}
use Rattle.entries.specs.Entries.{record_at, record_check}
use Rattle.structure.specs.Sound.{SoundEntry}
use Rattle.index.specs.Lookup.{entry_at}
use Rattle.structure.proofs.PassLaws.{structure_header, structure_record}
use Rattle.structure.proofs.SoundLaws.{record_sound, found_record, record_found}
use Rattle.package.specs.Package.{signature_at, header_start, header_at, structure_for, structure_of, sound_check}
use Rattle.package.proofs.OpenLaws.{sound_signature, sound_header}
use Rattle.lookups.specs.Lookup.{sought_as, sought}
use Rattle.lookups.specs.Theorems.{RecordFor}
use Rattle.structure.proofs.TagLaws.{for_true, true_for, tags_once}
use Rattle.std.specs.Prelude.{Option, Some, None, Ok, Err}
use Rattle.format.specs.Verdicts.{Verdict, pass}

module _ (s : List ℕ) (h : sound_check s ≡ pass) where
  pub structure_fits_lem : (which : ℕ) → section_end (structure_of s which) ≤ length s
  structure_fits_lem which = go (eqb which 0)
    where
      go : (b : Bool) → section_end (cond b (signature_at s) (header_at s)) ≤ length s
      go true = (structure_header Signature s (length s) lead_size (sound_signature s h)).fits
      go false = (structure_header Header s (length s) (header_start (signature_at s)) (sound_header s h)).fits

  pub record_passed : (which k : ℕ) → k < (structure_of s which).nindex
      → record_check (structure_for which) s (structure_of s which) k ≡ pass
  record_passed which = go (eqb which 0)
    where
      go : (b : Bool) (k : ℕ) → k < (cond b (signature_at s) (header_at s)).nindex
          → record_check (cond b Signature Header) s (cond b (signature_at s) (header_at s)) k ≡ pass
      go true = structure_record Signature s (length s) lead_size (sound_signature s h)
      go false = structure_record Header s (length s) (header_start (signature_at s)) (sound_header s h)

  -- the data of a record lies in the store
  pub entry_sound : (which k : ℕ) → k < (structure_of s which).nindex
      → SoundEntry s (section_end (structure_of s which)) (entry_at s (structure_of s which) k)
  entry_sound which k l = record_sound (structure_for which) s _ (structure_of s which) k (omega arith) (record_passed which k l)

pub sought_here : (v : Verdict) (found : Option Entry) (entry : Entry) → sought_as v found ≡ Ok entry
    → (v ≡ pass) × (found ≡ Some entry)
sought_here (Ok _) (Some found) entry h = let e : found ≡ entry = cc in (refl, ap Some e)
sought_here (Ok _) None entry h = let z : ◌≡◌ {A = ℕ} 0 1 = cc in absurd (omega arith)
sought_here (Err e) found entry h = let z : ◌≡◌ {A = ℕ} 0 1 = cc in absurd (omega arith)

module _ (s : List ℕ) (which tag ty : ℕ) where
  pub record_of_found : (entry : Entry) → sought s which tag ty ≡ Ok entry
      → (sound_check s ≡ pass) × (k : ℕ) × RecordFor s (structure_of s which) tag ty k
      × (entry ≡ entry_at s (structure_of s which) k)
  unfolding sought
  record_of_found entry h =
      let q = sought_here (sound_check s) _ entry h in
      let r = found_record s (structure_of s which) tag ty (structure_of s which).nindex 0 entry q.1 in
      let t = for_true tag ty (record_at s (structure_of s which) r.0) r.3 in
      (q.0, r.0, record { within = omega arith; tagged = t.0; typed = t.1 }, r.4)

  found_some : sound_check s ≡ pass → (k : ℕ) → RecordFor s (structure_of s which) tag ty k
      → (entry : Entry) × (sought s which tag ty ≡ Ok entry)
  unfolding sought
  found_some h k r =
      let t = true_for tag ty (record_at s (structure_of s which) k) r.tagged r.typed in
      let n = (structure_of s which).nindex in
      let f = record_found s (structure_of s which) tag ty n 0 k (omega arith) (omega arith) t in
      (f.0, rw (h, f.1))

  pub found_of_record : sound_check s ≡ pass → (k : ℕ) → RecordFor s (structure_of s which) tag ty k
      → sought s which tag ty ≡ Ok (entry_at s (structure_of s which) k)
  found_of_record h k r =
      let f = found_some h k r in
      let g = record_of_found f.0 f.1 in
      let p = record_passed s h which g.1 g.2.within in
      let q = record_passed s h which k r.within in
      let e = tags_once (structure_for which) s (structure_of s which) g.1 k p q (g.2.tagged ∙ sym r.tagged) in
      f.1 ∙ ap Ok (g.3 ∙ ap (entry_at s (structure_of s which)) e)

  pub found_sound : (entry : Entry) → sought s which tag ty ≡ Ok entry
      → SoundEntry s (section_end (structure_of s which)) entry
  found_sound entry h =
      let r = record_of_found entry h in
      rw r.3 (entry_sound s r.0 which r.1 r.2.within)
