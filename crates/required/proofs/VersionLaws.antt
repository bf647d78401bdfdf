-- The search for a required name, one law for each way through a turn (ends, turn, spent); what is found among a header's
-- entries (names_sound to versions_sound), and the version (version_here).
use Prim.Native.Nat.{ℕ, suc, ◌+◌, ◌-◌, ◌≤◌, ◌<◌}
use mathlib.Core.Path.{◌≡◌, refl, sym, ap, ◌∙◌}
use mathlib.Core.List.{List}
use mathlib.Core.Bool.{Bool, true, false, cond}
use lib.ListN.{take, drop}
use native.Mathlib.Omega.{arith}
use Rattle.be.specs.Bytes.{same_bytes}
use Rattle.strings.specs.Strings.{strings_from}
use Rattle.strings.proofs.StringLaws.{bound, positive, split}
use Rattle.format.specs.declared.section.Section.{Section}
use Rattle.format.specs.Sizes.{package_limit}
use Rattle.places.specs.Behind.{behind}
use Rattle.places.proofs.BehindLaws.{near}
use Rattle.entries.specs.declared.types.ElementSize.TheVariants.{ToZero}
use Rattle.index.specs.declared.Entry.{Entry}
use Rattle.entries.specs.Types.{element_size}
use Rattle.index.specs.Lookup.{extent_to, find_in}
use Rattle.structure.specs.Sound.{SoundEntry}
use Rattle.structure.proofs.SoundLaws.{found_type}
use Rattle.elements.specs.Elements.{element_of, element_in}
use Rattle.package.specs.Package.{header_at, sound_check}
use Rattle.required.specs.declared.Requirement.{Requirement}
use Rattle.required.specs.Version.{text_of, number_from, requirement_for, sought_version}
use Rattle.required.specs.Version.{require_name, string_array}
use Rattle.lookups.proofs.SeekLaws.{header_found}
use Rattle.elements.proofs.PartLaws.{in_of}
use Rattle.required.proofs.MatchLaws.{arrays_of}
use Rattle.std.specs.Prelude.{Option, Some, None, Result, Ok}
use Rattle.format.specs.Verdicts.{pass}
use Rattle.format.specs.declared.verdict.Refusal.{Refusal}

module _ (s name : List ℕ) (names : Entry) where
  step : (n k : ℕ) → number_from s name names (suc n) k
      ≡ cond (same_bytes (text_of s (element_of s names k)) name) (Some k) (number_from s name names n (k + 1))
  unfolding number_from
  step n k = refl

  unrolled : (n k : ℕ) → k < n → number_from s name names (n - k) k
      ≡ cond (same_bytes (text_of s (element_of s names k)) name) (Some k) (number_from s name names (n - (k + 1)) (k + 1))
  unrolled n k l =
      let e : n - k ≡ suc (n - (k + 1)) = omega arith in
      rw e (step (n - (k + 1)) k)

  none : (n k : ℕ) → n ≡ 0 → None ≡ number_from s name names n k
  unfolding number_from
  none n k h = rw h

  pub spent : (k : ℕ) {v : Option ℕ} → v ≡ number_from s name names (names.count - k) k → names.count ≤ k → None ≡ v
  spent k w l = none (names.count - k) k (omega arith) ∙ sym w

-- string k of a sound string array starts at a place
module _ (s : List ℕ) (names : Entry) (sound : SoundEntry s package_limit names) (strings : element_size names.ty ≡ Some ToZero)
    (k at : ℕ) (l : k < names.count) (inv : strings_from s names.extent names.at.0 k ≡ Some at) where
  next : (m : ℕ) × (strings_from s names.extent names.at.0 (k + 1) ≡ Some m)
      × (strings_from s (names.at.0 + names.extent - at) at 1 ≡ Some m)
  next =
      let r = split s names.extent names.at.0 (k + 1) (names.count - (k + 1)) names.count _ (omega arith) (sound.strings strings) in
      let q = split s names.extent names.at.0 k 1 (k + 1) r.0 refl r.1 in
      let e : q.0 ≡ at = cc in
      (r.0, r.1, rw e at q.2)

  text : text_of s (element_of s names k)
      ≡ take (extent_to at (strings_from s (names.at.0 + names.extent - at) at 1) - 1) (drop at s)
  unfolding element_of
  text = rw (strings, inv)

  -- in the shape of what is known in a turn
  module _ {end n : ℕ} {run : Option ℕ} (d : end ≡ behind names.at.0 names.extent)
      (p : run ≡ strings_from s (end - at) at 1) (q : n ≡ extent_to at run) where
    names_end : end ≡ names.at.0 + names.extent
    names_end = let i = sound.inside in near names.at.0 names.extent d (omega arith)

    reached : n ≡ next.0 - at
    reached = q ∙ ap (extent_to at) (p ∙ ap (λ (x : ℕ). strings_from s (x - at) at 1) names_end ∙ next.2)

    bounds : (at < next.0) × (next.0 ≤ at + (names.at.0 + names.extent - at))
    bounds = (positive s _ at 1 next.0 next.2 (omega arith), (bound s _ at 1 next.0 next.2).1)

    pub some : 1 ≤ n
    some = let b = bounds in let r = reached in omega arith

    pub turn_at : {place : ℕ} → place ≡ behind at n → strings_from s names.extent names.at.0 (k + 1) ≡ Some place
    turn_at {place} f =
        let b = bounds in
        let r = reached in
        let c = (bound s _ _ _ at inv).1 in
        let i = sound.inside in
        let g : place ≡ at + n = near at n f (omega arith) in
        let w : place ≡ next.0 = omega arith in
        rw w next.1

    same_text : {t : List ℕ} → t ≡ take (n - 1) (drop at s) → t ≡ text_of s (element_of s names k)
    same_text h = h ∙ rw (q, p, names_end) (sym text)

    module _ (name : List ℕ) {v : Option ℕ} (w : v ≡ number_from s name names (names.count - k) k)
        {t : List ℕ} (h : t ≡ take (n - 1) (drop at s)) {b : Bool} (j : b ≡ same_bytes t name) where
      tested : {a : Bool} → b ≡ a → v ≡ cond a (Some k) (number_from s name names (names.count - (k + 1)) (k + 1))
      tested f =
          w ∙ unrolled s name names names.count k l
          ∙ rw (sym (ap (λ (x : List ℕ). same_bytes x name) (same_text h)) ∙ sym j ∙ f)

      pub ends : b ≡ true → Some k ≡ v
      ends f = sym (tested f)

      pub turn : b ≡ false → v ≡ number_from s name names (names.count - (k + 1)) (k + 1)
      turn f = tested f

-- among a header's entries, in the shape of what is known where the search returns
module _ (s name : List ℕ) (header : Section) {f : Option Entry} (p : f ≡ find_in s header require_name string_array) where
  module _ {names : Entry} (h : f ≡ Some names) where
    pub names_sound : sound_check s ≡ pass → header ≡ header_at s → SoundEntry s package_limit names
    names_sound c e = header_found s require_name string_array names c (rw e at (sym p ∙ h))

    pub names_strings : element_size names.ty ≡ Some ToZero
    unfolding element_size
    names_strings = rw (found_type s header require_name string_array names (sym p ∙ h))

-- the version of a requirement
module _ (s name : List ℕ) {r : Result Requirement Refusal} (p : r ≡ requirement_for s name) where
  module _ {wanted : Requirement} (h : r ≡ Ok wanted) where
    pub versions_sound : SoundEntry s package_limit wanted.versions
    versions_sound = let a = arrays_of s name (sym p ∙ h) in header_found s 1050 8 wanted.versions a.sound a.versioned

    pub version_here : {entry : Entry} → entry ≡ element_in s wanted.versions wanted.number → Ok entry ≡ sought_version s name
    unfolding sought_version
    version_here e =
        let i = versions_sound.inside in
        rw (sym p ∙ h, in_of s wanted.versions wanted.number (omega arith) e)
