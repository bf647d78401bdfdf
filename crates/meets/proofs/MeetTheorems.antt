-- The theorems of specs/Theorems: meets_says, meets_else, meets_refused.
use Prim.Native.Nat.{ℕ, ◌<◌}
use mathlib.Core.Path.{◌≡◌, refl, sym, ap, ◌∙◌}
use mathlib.Core.List.{List, [], ◌∷◌, ◌++◌}
use mathlib.Core.Bool.{Bool, true, false, cond}
use lib.Dec.{eqb}
use native.Mathlib.Omega.{arith}
use borrow.Author.Tests.{eq-eqb, eqb-true}
use Rattle.be.specs.Numbers.{be32_at}
use Rattle.be.proofs.ByteLaws.{be32_part}
use Rattle.format.specs.declared.section.Section.{Section}
use Rattle.entries.specs.Types.{element_size}
use Rattle.entries.specs.Entries.{record_at}
use Rattle.index.specs.declared.Entry.{Entry}
use Rattle.index.specs.Lookup.{find_in, entry_at}
use Rattle.package.specs.Package.{header_at}
use Rattle.lookups.specs.Lookup.{sought, sought_bytes}
use Rattle.lookups.proofs.FoundLaws.{record_of_found}
use Rattle.elements.specs.Elements.{element_of, find_element_bytes}
use Rattle.required.specs.declared.Requirement.{Requirement}
use Rattle.required.specs.Version.{text_of, requirement_for}
use Rattle.required.specs.Theorems.{IsName}
use Rattle.required.proofs.MatchLaws.{arrays_of, refused_25, refused_first}
use Rattle.required.proofs.RequirementLaws.{found_in, shown, shown_text, string_arrays, name_below, required_first, required_of}
use Rattle.version.specs.Version.{by_text}
use Rattle.meets.specs.Meets.{meets_by, yes_or_no, decided_by, decided, meets_answer}
use Rattle.meets.specs.Theorems.{Flagged, FirstName, flags_shown, MeetsSays, MeetsElse, MeetsRefused}
use Rattle.meets.proofs.RelationLaws.{by_relation, by_flags, is_yes, is_no, not_yes}
use Rattle.std.specs.Prelude.{Option, Some, None, Result, Ok, Err}
use Rattle.format.specs.Verdicts.{refusal}
use Rattle.format.specs.declared.verdict.Refusal.{Refusal}

-- flags and version of number k, as element look-ups show them
module _ (s : List ℕ) (w : Flagged s) (k : ℕ) (below : k < (record_at s (header_at s) w.arrays.names).count) where
  flags : Entry
  flags = entry_at s (header_at s) w.flags

  versions : Entry
  versions = entry_at s (header_at s) w.arrays.versions

  four_bytes_lem : (element_of s flags k).extent ≡ 4
  unfolding flags element_of element_size
  four_bytes_lem = rw w.typed.typed

  number_shown : flags_shown s k ≡ be32_at s (element_of s flags k).at.0
  unfolding flags
  number_shown =
      let c = w.counts in
      ap (λ (l : List ℕ). be32_at l 0)
      (ap (sought_bytes s) (shown s 1048 4 w.flags w.arrays.sound w.typed k (omega arith)))
      ∙ be32_part s (element_of s flags k).at.0 (element_of s flags k).extent (omega (arith, four_bytes_lem))

  text : List ℕ
  text = text_of s (element_of s versions k)

  text_shown : find_element_bytes s 1 1050 8 k ≡ text ++ (0 ∷ [])
  unfolding versions text
  text_shown =
      let c = w.arrays.counts in
      shown_text s 1050 w.arrays.versions w.arrays.sound w.arrays.versioned k (omega arith)

  counts : flags.count ≡ versions.count
  unfolding flags versions
  counts = w.counts ∙ w.arrays.counts

  module _ (name given : List ℕ) (first : FirstName s name k) where
    by_number : meets_answer s name given ≡ decided_by s given flags versions k
    unfolding meets_answer decided flags versions
    by_number =
        rw (
          required_first s name w.arrays k first.this first.first,
          found_in s 1048 4 w.flags w.arrays.sound w.typed,
          eq-eqb _ _ counts,
        )

    by_shown : meets_answer s name given ≡ yes_or_no (meets_by (flags_shown s k) (by_text given text))
    unfolding text
    by_shown = by_number ∙ ap yes_or_no (ap (λ (n : ℕ). meets_by n (by_text given text)) (sym number_shown))

pub meets_says : MeetsSays
meets_says s name given k w first =
    let l = name_below s name w.arrays k first.this in
    let t = text s w k l in
    let b = meets_by (flags_shown s k) (by_text given t) in
    let a = by_shown s w k l name given first in (
      t,
      text_shown s w k l,
      (λ h. by_relation _ _ (is_yes b (sym a ∙ h)), λ m. a ∙ ap yes_or_no (by_flags _ _ m)),
      (λ h m. is_no b (sym a ∙ h) (by_flags _ _ m), λ n. a ∙ not_yes b (λ z. n (by_relation _ _ z))),
    )

-- a requirement that was found, with flags that aren't int32 of its count
module _ (s name given : List ℕ) (none : Flagged s → (k : ℕ) → IsName s name k → ⊥)
    {header : Section} {versions : Entry} {k : ℕ} (h : requirement_for s name ≡ Ok (record { header = header; versions = versions; number = k })) where
  no_counts : (flags' : Entry) → find_in s (header_at s) 1048 4 ≡ Some flags' → flags'.count ≡ versions.count → ⊥
  unfolding sought
  no_counts flags' f e =
      let q = arrays_of s name h in
      let a = string_arrays s name h in
      let r = record_of_found s 1 1048 4 flags' (rw (q.sound, f)) in
      let c = a.0.counts in
      let d = ap (λ (x : Entry). x.count) a.2 in
      let g = ap (λ (x : Entry). x.count) r.3 in
      none (record { arrays = a.0; flags = r.1; typed = r.2; counts = sym g ∙ e ∙ d ∙ sym c }) k (required_of s name h).1

  else_decided : (f : Option Entry) → find_in s (header_at s) 1048 4 ≡ f → decided s given (header_at s) versions k ≡ Err (refusal 25 0)
  unfolding decided
  else_decided None f = rw f
  else_decided (Some flags') f = rw f (go (eqb flags'.count versions.count) refl)
    where
      go : (b : Bool) → eqb flags'.count versions.count ≡ b
          → cond b (decided_by s given flags' versions k) (Err (refusal 25 0)) ≡ Err (refusal 25 0)
      go true t = absurd (no_counts flags' f (eqb-true _ _ t))
      go false t = refl

pub meets_else : MeetsElse
unfolding meets_answer
meets_else s name given p none = go (requirement_for s name) refl
  where
    go : (x : Result Requirement Refusal) → requirement_for s name ≡ x → meets_answer s name given ≡ Err (refusal 25 0)
    go (Err refused) h =
        let e = refused_25 s name p refused.number refused.place h in
        rw h (rw (e.0, e.1))
    go (Ok wanted) h =
        rw (h, ← (arrays_of s name h).here) (else_decided s name given none h _ refl)

pub meets_refused : MeetsRefused
unfolding meets_answer
meets_refused s name given number place h = rw (refused_first s name h)
