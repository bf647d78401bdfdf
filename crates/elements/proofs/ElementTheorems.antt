-- The theorems of specs/Theorems on one element: element_exact, element_shows.
use Prim.Native.Nat.{ℕ, ◌<◌}
use mathlib.Core.Path.{◌≡◌, refl, ap, ◌∙◌}
use mathlib.Core.Logic.{◌≢◌}
use mathlib.Core.List.{List, []}
use lib.ListN.{length}
use native.Mathlib.Omega.{arith}
use Rattle.be.proofs.ByteLaws.{length_part}
use Rattle.format.specs.Places.{section_end}
use Rattle.index.specs.declared.Entry.{Entry}
use Rattle.entries.specs.Entries.{record_at}
use Rattle.index.specs.Lookup.{entry_at}
use Rattle.package.specs.Package.{sound_check, structure_of}
use Rattle.lookups.specs.Lookup.{sought_bytes, sought_answer}
use Rattle.elements.specs.Elements.{sought_element, element_of}
use Rattle.lookups.specs.Theorems.{RecordFor}
use Rattle.elements.specs.Theorems.{ElementExact, ElementShows}
use Rattle.lookups.proofs.FoundLaws.{structure_fits_lem, entry_sound, record_of_found, found_of_record}
use Rattle.elements.proofs.ElementFound.{element_found, element_of_lem, found_element}
use Rattle.elements.proofs.ElementLaws.{fixed_starts, fixed_extent}
use Rattle.elements.proofs.SingleLaws.{strings_before, string_single}
use Rattle.lookups.proofs.AnswerTheorems.{not_empty}
use Rattle.std.specs.Prelude.{Result, Ok, Err}
use Rattle.format.specs.Verdicts.{pass}
use Rattle.format.specs.declared.verdict.Refusal.{Refusal}

element_data : (s : List ℕ) (which tag ty i k : ℕ) → sound_check s ≡ pass → RecordFor s (structure_of s which) tag ty i
    → k < (record_at s (structure_of s which) i).count
    → sought_element s which tag ty k ≡ Ok (element_of s (entry_at s (structure_of s which) i) k)
element_data s which tag ty i k h r l = element_found s which tag ty k _ (found_of_record s which tag ty h i r) l

some_bytes : (s : List ℕ) (which tag ty k : ℕ) (element : Entry) → sought_element s which tag ty k ≡ Ok element
    → sought_bytes s (sought_element s which tag ty k) ≢ []
some_bytes s which tag ty k element h =
    let t = found_element s which tag ty k element h in
    rw h (not_empty s (section_end (structure_of s which)) element t.0 t.1)

pub element_exact : ElementExact
element_exact s which tag ty k = (
  go (sought_element s which tag ty k) refl,
  λ r. some_bytes s which tag ty k _ (element_data s which tag ty r.1 k r.0 r.2 r.3),
)
  where
    go : (x : Result Entry Refusal) → sought_element s which tag ty k ≡ x → sought_bytes s x ≢ []
        → (sound_check s ≡ pass) × (i : ℕ) × RecordFor s (structure_of s which) tag ty i
        × (k < (record_at s (structure_of s which) i).count)
    go (Ok element) e h =
        let q = element_of_lem s which tag ty k element e in
        let r = record_of_found s which tag ty q.0 q.1 in
        (r.0, r.1, r.2, rw (ap (λ (x : Entry). x.count) r.3) at q.2)
    go (Err refused) e h = absurd (h refl)

pub element_shows : ElementShows
element_shows s which tag ty i k h r l =
    let entry = entry_at s (structure_of s which) i in
    let element = element_of s entry k in
    let f = element_data s which tag ty i k h r l in
    let b = structure_fits_lem s h which in
    let t = (found_element s which tag ty k element f).1 in
    let u = entry_sound s h which i r.within in
    let c = u.inside in
    let a = t.inside in
    let z = length_part s element.at.0 element.extent (omega arith) in
    let q = ap (λ (x : Result Entry Refusal). length (sought_bytes s x)) f ∙ z in
    record {
      from = element.at.0;
      fixed = λ n p. (fixed_starts s entry n p k, q ∙ fixed_extent s entry n p k);
      strings = λ p. (
        strings_before s entry k p l (u.strings p),
        rw f (string_single s entry k p l (u.strings p) (omega arith)),
      );
      inside = omega arith;
      part = rw q (ap (sought_bytes s) f);
      place = ap sought_answer f;
    }
