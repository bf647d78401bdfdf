-- Checks 14 and 15 pass exactly on lawful lines: lines_lawful.
use Prim.Native.Nat.{ℕ}
use mathlib.Core.Path.{◌≡◌, refl, sym, ◌∙◌}
use mathlib.Core.Logic.Iff
use mathlib.Core.Logic.{◌↔◌, ◌≢◌, inl, inr, ⊎_elim}
use mathlib.Core.List.{List, [], ◌∷◌}
use mathlib.Core.Bool.{true, false≢true, and-eq-true_iff}
use native.Mathlib.Omega.{arith}
use borrow.Author.Tests.{eqb-true, eq-eqb}
use Rattle.format.specs.declared.section.Section.{Section}
use Rattle.format.specs.declared.records.IndexRecord.{IndexRecord}
use Rattle.index.specs.Lookup.{tagged_in}
use Rattle.catalogue.specs.declared.Line.{Line}
use Rattle.catalogue.specs.declared.Status.{Status}
use Rattle.catalogue.specs.declared.Status.TheVariants.{Optional, Required, RequiredFrom}
use Rattle.catalogue.specs.Catalogue.{is_count, must_be_present, is_as_line}
use Rattle.lines.specs.Lines.{line_check_as, line_check, lines_of, lines_check}
use Rattle.reading.specs.Editions.{Edition}
use Rattle.demands.specs.Lawful.{LawfulLine, LinesIn, LawfulLines}
use Rattle.demands.proofs.PassIff.{last_iff, both_iff, eqb_iff, not_iff}
use Rattle.demands.proofs.TagLawful.{has_tag_lem, where_present, where_absent, tagged_absent}
use Rattle.demands.proofs.FoundLawful.{Apart}
use Rattle.std.specs.Prelude.{Option, Some, None}
use Rattle.format.specs.Verdicts.{pass}

-- a count is a line's where it is the one that the line prints, if it prints one
count_iff : (rule : Option ℕ) (count : ℕ) → (is_count rule count ≡ true) ↔ ((n : ℕ) → rule ≡ Some n → count ≡ n)
count_iff None count = (λ h n q. let z : ◌≡◌ {A = ℕ} 0 1 = cc in absurd (omega arith), λ h. refl)
count_iff (Some exact) count = (
  λ h n q. let e : exact ≡ n = cc in sym (eqb-true exact count h) ∙ e,
  λ h. eq-eqb exact count (sym (h exact refl)),
)

-- a status other than the optional one says that a tag must be present
required_iff : (status : Status) → (must_be_present status ≡ true) ↔ (status ≢ Optional)
required_iff Optional = (λ h. absurd (false≢true h), λ h. absurd (h refl))
required_iff Required = (λ h q. let z : ◌≡◌ {A = ℕ} 0 1 = cc in absurd (omega arith), λ h. refl)
required_iff (RequiredFrom n) = (λ h q. let z : ◌≡◌ {A = ℕ} 0 1 = cc in absurd (omega arith), λ h. refl)

as_line : (line : Line) (ty count : ℕ)
    → (is_as_line line ty count ≡ true) ↔ ((line.ty ≡ ty) × ((n : ℕ) → line.count ≡ Some n → count ≡ n))
unfolding is_as_line
as_line line ty count = simp (and-eq-true_iff, eqb_iff line.ty, count_iff line.count) Iff.rfl

module _ (s : List ℕ) (section : Section) (apart : Apart s section) where
  line_found : (line : Line) (found : Option IndexRecord) → tagged_in s section line.tag ≡ found
      → (line_check_as line found ≡ pass) ↔ LawfulLine s section line
  line_found line (Some e) q =
      let typed = where_present s section line.tag apart (λ (e' : IndexRecord). e'.ty ≡ line.ty) e q in
      let counted = λ (n : ℕ). where_present s section line.tag apart (λ (e' : IndexRecord). e'.count ≡ n) e q in
      simp (last_iff, as_line) (
        λ h. record {
          required = λ w. (has_tag_lem s section line.tag).0 (rw q);
          type' = typed.1 (sym h.0);
          count = λ n w. (counted n).1 (h.1 n w);
        },
        λ r. (sym (typed.0 r.type'), λ n w. (counted n).0 (r.count n w)),
      )
  line_found line None q =
      simp (last_iff, not_iff) (
        λ h. record {
          required = λ w. absurd (h ((required_iff line.status).1 w));
          type' = where_absent s section line.tag (λ (e : IndexRecord). e.ty ≡ line.ty) q;
          count = λ n w. where_absent s section line.tag (λ (e : IndexRecord). e.count ≡ n) q;
        },
        λ r w. let f = r.required ((required_iff line.status).0 w) in
            tagged_absent s section line.tag q f.0 f.1 f.2,
      )

  line_lawful : (line : Line) → (line_check (tagged_in s section) line ≡ pass) ↔ LawfulLine s section line
  line_lawful line = line_found line (tagged_in s section line.tag) refl

  listed_lawful : (lines : List Line) → (lines_of (tagged_in s section) lines ≡ pass) ↔ LinesIn s section lines
  unfolding lines_of
  listed_lawful [] = (λ h line l. absurd l, λ h. refl)
  listed_lawful (first ∷ rest) =
      simp (both_iff, line_lawful, listed_lawful rest) (
        λ h line. ⊎_elim (λ e. rw e h.0) (h.1 line),
        λ h. (h first (inl refl), λ line l. h line (inr l)),
      )

pub lines_lawful : (edition : Edition) (s : List ℕ) (signature header : Section) → Apart s signature → Apart s header
    → (lines_check edition.signature edition.header (tagged_in s signature) (tagged_in s header) ≡ pass)
    ↔ LawfulLines edition s signature header
unfolding lines_check
lines_lawful edition s signature header apart apart' =
    simp (both_iff, listed_lawful s signature apart, listed_lawful s header apart') Iff.rfl
