-- The theorems of specs/Theorems on look-ups: tags_once, lookup_shows, lookup_exact, lookup_refuses.
use Prim.Native.Nat.{ℕ}
use mathlib.Core.Path.{◌≡◌, refl, ap, ◌∙◌}
use mathlib.Core.Logic.{◌≢◌}
use mathlib.Core.List.{List, []}
use lib.ListN.{length}
use native.Mathlib.Omega.{arith}
use Rattle.be.proofs.ByteLaws.{length_part}
use Rattle.index.specs.Lookup.{entry_at, find_in}
use Rattle.package.specs.Package.{sound_check, structure_for, structure_of}
use Rattle.lookups.specs.Lookup.{sought_as, sought, sought_bytes, sought_answer, find_bytes}
use Rattle.lookups.specs.Theorems.{RecordFor, LookupExact, LookupRefuses, LookupShows, TagsOnce}
use Rattle.structure.proofs.TagLaws as tag
use Rattle.lookups.proofs.FoundLaws.{structure_fits_lem, record_passed, entry_sound}
use Rattle.lookups.proofs.FoundLaws.{record_of_found, found_of_record}
use Rattle.std.specs.Prelude.{Option, Some, None, Result, Ok, Err}
use Rattle.format.specs.Verdicts.{pass, refusal}
use Rattle.format.specs.declared.verdict.Refusal.{Refusal}
use Rattle.index.specs.declared.Entry.{Entry}

pub tags_once : TagsOnce
tags_once s which j k h l m =
    tag.tags_once (structure_for which) s (structure_of s which) j k (record_passed s h which j l) (record_passed s h which k m)

pub lookup_shows : LookupShows
lookup_shows s which tag ty k h r =
    let entry = entry_at s (structure_of s which) k in
    let f = found_of_record s which tag ty h k r in
    let t = entry_sound s h which k r.within in
    let fits = structure_fits_lem s h which in
    record {
      extent = entry.extent;
      fixed = t.fixed;
      strings = t.strings;
      some = t.bytes;
      inside = t.inside;
      fits = fits;
      part = ap (sought_bytes s) f;
      size =
          ap (λ (x : Result Entry Refusal). length (sought_bytes s x)) f ∙ length_part s entry.at.0 entry.extent (omega arith);
      place = ap sought_answer f;
    }

some_data : (s : List ℕ) (which tag ty k : ℕ) → sound_check s ≡ pass → RecordFor s (structure_of s which) tag ty k
    → find_bytes s which tag ty ≢ []
some_data s which tag ty k h r q =
    let t = lookup_shows s which tag ty k h r in
    let z = ap length q in
    let e = t.size in
    let l = t.some in
    omega arith

pub lookup_exact : LookupExact
lookup_exact s which tag ty = (go (sought s which tag ty) refl, λ r. some_data s which tag ty r.1 r.0 r.2)
  where
    go : (x : Result Entry Refusal) → sought s which tag ty ≡ x → sought_bytes s x ≢ []
        → (sound_check s ≡ pass) × (k : ℕ) × RecordFor s (structure_of s which) tag ty k
    go (Ok entry) e h = let r = record_of_found s which tag ty entry e in (r.0, r.1, r.2)
    go (Err refused) e h = absurd (h refl)

none_found : (s : List ℕ) (which tag ty : ℕ) → sound_check s ≡ pass
    → ((k : ℕ) → RecordFor s (structure_of s which) tag ty k → ⊥) → sought s which tag ty ≡ Err (refusal 25 0)
unfolding sought
none_found s which tag ty h n = go (find_in s (structure_of s which) tag ty) refl
  where
    go : (f : Option Entry) → find_in s (structure_of s which) tag ty ≡ f → sought_as (sound_check s) f ≡ Err (refusal 25 0)
    go (Some entry) e =
        let r = record_of_found s which tag ty entry (rw (h, e)) in
        absurd (n r.1 r.2)
    go None e = rw h

pub lookup_refuses : LookupRefuses
lookup_refuses s which tag ty h n =
    let e = none_found s which tag ty h n in
    (ap (sought_bytes s) e, ap sought_answer e)
