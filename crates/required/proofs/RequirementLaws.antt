-- What is required for a name, in the words of the theorems: the first string of 1049 that is the name gives the number
-- (required_first), some such string gives one (required_some), and a requirement comes from one (required_of). What an
-- element look-up shows: found_in, shown, and shown_text of a string array.
use Prim.Native.Nat.{ℕ, ◌<◌}
use mathlib.Core.Path.{◌≡◌, refl, sym, ap, ◌∙◌}
use mathlib.Core.Logic.{◌≢◌}
use mathlib.Core.List.{List, [], ◌∷◌, ◌++◌, append_cancel_right}
use mathlib.Core.Bool.{Bool, true, false}
use lib.ListN.{length, length-append}
use native.Mathlib.Omega.{arith}
use Rattle.be.proofs.SameLaws.{same_eq, same_refl}
use Rattle.format.specs.declared.section.Section.{Section}
use Rattle.entries.specs.declared.types.ElementSize.TheVariants.{ToZero}
use Rattle.entries.specs.Types.{element_size}
use Rattle.entries.specs.Entries.{record_at}
use Rattle.index.specs.declared.Entry.{Entry}
use Rattle.index.specs.Lookup.{entry_at, find_in}
use Rattle.package.specs.Package.{sound_check, header_at}
use Rattle.lookups.specs.Lookup.{sought, sought_bytes}
use Rattle.lookups.specs.Theorems.{RecordFor}
use Rattle.lookups.proofs.FoundLaws.{structure_fits_lem, entry_sound, sought_here, record_of_found, found_of_record}
use Rattle.lookups.proofs.LookupTheorems.{tags_once}
use Rattle.elements.specs.Elements.{element_of, sought_element, find_element_bytes}
use Rattle.elements.proofs.ElementFound.{element_found}
use Rattle.elements.proofs.SingleLaws.{string_split}
use Rattle.elements.proofs.ElementTheorems.{element_exact}
use Rattle.required.specs.Version.{text_of, number_from, requirement_as, requirement_for}
use Rattle.required.specs.Theorems.{StringArrays, IsName}
use Rattle.required.proofs.MatchLaws.{matches, first_match, some_match, match_of, in_arrays, Arrays, arrays_of}
use Rattle.std.specs.Prelude.{Some, Ok}
use Rattle.format.specs.Verdicts.{pass}

not_empty : (name : List ℕ) → name ++ (0 ∷ []) ≢ []
not_empty name h = let z = ap length h in omega (arith, length-append name (0 ∷ []))

-- an entry of the header, found by its record
module _ (s : List ℕ) (tag ty i : ℕ) (h : sound_check s ≡ pass) (r : RecordFor s (header_at s) tag ty i) where
  found : sought s 1 tag ty ≡ Ok (entry_at s (header_at s) i)
  found = found_of_record s 1 tag ty h i r

  pub found_in : find_in s (header_at s) tag ty ≡ Some (entry_at s (header_at s) i)
  unfolding sought
  found_in = (sought_here (sound_check s) (find_in s (header_at s) tag ty) (entry_at s (header_at s) i) found).1

  pub shown : (k : ℕ) → k < (record_at s (header_at s) i).count
      → sought_element s 1 tag ty k ≡ Ok (element_of s (entry_at s (header_at s) i) k)
  shown k l = element_found s 1 tag ty k (entry_at s (header_at s) i) found l

-- a string array
module _ (s : List ℕ) (tag i : ℕ) (h : sound_check s ≡ pass) (r : RecordFor s (header_at s) tag 8 i) where
  pub strings : element_size (record_at s (header_at s) i).ty ≡ Some ToZero
  unfolding element_size
  strings = rw r.typed

  -- element k is its text and a zero byte
  pub shown_text : (k : ℕ) → k < (record_at s (header_at s) i).count
      → find_element_bytes s 1 tag 8 k ≡ text_of s (element_of s (entry_at s (header_at s) i) k) ++ (0 ∷ [])
  shown_text k l =
      let u = entry_sound s h 1 i r.within in
      let a = u.inside in
      let b = structure_fits_lem s h 1 in
      ap (sought_bytes s) (shown s tag 8 i h r k l)
      ∙ string_split s (entry_at s (header_at s) i) k strings l (u.strings strings) (omega arith)

  -- an element that is shown has a number below the count
  below : (k : ℕ) → find_element_bytes s 1 tag 8 k ≢ [] → k < (record_at s (header_at s) i).count
  below k n =
      let e = (element_exact s 1 tag 8 k).0 n in
      let q = tags_once s 1 e.1 i h e.2.within r.within (e.2.tagged ∙ sym r.tagged) in
      rw q at e.3

module _ (s name : List ℕ) (a : StringArrays s) where
  names : Entry
  names = entry_at s (header_at s) a.names

  is_name : (k : ℕ) → k < (record_at s (header_at s) a.names).count → matches s name names k ≡ true → IsName s name k
  unfolding names
  is_name k l h =
      shown_text s 1049 a.names a.sound a.named k l ∙ ap (λ (x : List ℕ). x ++ (0 ∷ [])) (same_eq _ _ h)

  pub name_below : (k : ℕ) → IsName s name k → k < (record_at s (header_at s) a.names).count
  name_below k h = below s 1049 a.names a.sound a.named k (λ z. not_empty name (sym h ∙ z))

  name_matches : (k : ℕ) → IsName s name k → matches s name names k ≡ true
  unfolding names
  name_matches k h =
      let t = shown_text s 1049 a.names a.sound a.named k (name_below k h) in
      let e = append_cancel_right (text_of s (element_of s (entry_at s (header_at s) a.names) k)) name (0 ∷ []) (sym t ∙ h) in
      rw e (same_refl name)

  no_match : (m : ℕ) → m < (record_at s (header_at s) a.names).count → (IsName s name m → ⊥) → matches s name names m ≡ false
  no_match m l n = go (matches s name names m) refl
    where
      go : (b : Bool) → matches s name names m ≡ b → b ≡ false
      go true e = absurd (n (is_name m l e))
      go false e = refl

  numbered : {k : ℕ} → number_from s name names names.count 0 ≡ Some k
      → requirement_for s name ≡ Ok (record { header = (header_at s); versions = (entry_at s (header_at s) a.versions); number = k })
  unfolding names
  numbered h =
      in_arrays s name (entry_at s (header_at s) a.names) (entry_at s (header_at s) a.versions) a.sound
      (found_in s 1049 8 a.names a.sound a.named) (found_in s 1050 8 a.versions a.sound a.versioned)
      a.counts ∙ ap (requirement_as (header_at s) (entry_at s (header_at s) a.versions)) h

  pub required_first : (k : ℕ) → IsName s name k → ((m : ℕ) → m < k → IsName s name m → ⊥)
      → requirement_for s name ≡ Ok (record { header = (header_at s); versions = (entry_at s (header_at s) a.versions); number = k })
  unfolding names
  required_first k h f =
      let l = name_below k h in
      numbered (first_match s name names _ 0 k (omega arith) (omega arith) (name_matches k h)
      (λ m c d. no_match m (omega arith) (f m d)))

  pub required_some : (k : ℕ) → IsName s name k
      → (i : ℕ) × (i < (record_at s (header_at s) a.names).count)
      × (requirement_for s name ≡ Ok (record { header = (header_at s); versions = (entry_at s (header_at s) a.versions); number = i }))
  unfolding names
  required_some k h =
      let l = name_below k h in
      let m = some_match s name names names.count 0 k (omega arith) (omega arith) (name_matches k h) in
      (m.0, omega arith, numbered m.2)

-- a requirement that was found
module _ (s name : List ℕ) {header : Section} {versions : Entry} {k : ℕ}
    (h : requirement_for s name ≡ Ok (record { header = header; versions = versions; number = k })) where
  pub arrays : Arrays s name header versions k
  arrays = arrays_of s name h

  pub string_arrays : (a : StringArrays s) × (arrays.names ≡ entry_at s (header_at s) a.names)
      × (versions ≡ entry_at s (header_at s) a.versions)
  unfolding sought
  string_arrays =
      let q = arrays in
      let f = record_of_found s 1 1049 8 q.names (rw (q.sound, q.named)) in
      let g = record_of_found s 1 1050 8 versions (rw (q.sound, q.versioned)) in (
        record {
          sound = q.sound;
          names = f.1;
          versions = g.1;
          named = f.2;
          versioned = g.2;
          counts = sym (ap (λ (x : Entry). x.count) f.3) ∙ q.counts ∙ ap (λ (x : Entry). x.count) g.3;
        },
        f.3,
        g.3,
      )

  pub required_of : StringArrays s × IsName s name k
  unfolding names
  required_of =
      let q = arrays in
      let r = string_arrays in
      let m = match_of s name q.names q.names.count 0 k q.number in
      let c = ap (λ (x : Entry). x.count) r.1 in
      (r.0, is_name s name r.0 k (omega arith) (ap (λ (x : Entry). matches s name x k) (sym r.1) ∙ m.1))
