-- A tag has a line: has_line_lem. Tags that the lines require are present: size_there, digest_there, states_there, locales_there,
-- batch_there; those of check 18 are strings: text_lines. Checks 16 and 23, of the numbers that tags hold, pass exactly as the
-- rules say: size_lawful, batch_lawful.
use Prim.Native.Nat.{ℕ, ◌-◌, ◌≤◌, ◌<◌}
use mathlib.Core.Path.{◌≡◌, refl, sym, ap, ◌∙◌}
use mathlib.Core.Logic.Iff
use mathlib.Core.Logic.{◌↔◌, ◌≢◌, inl, inr, ⊎_elim}
use mathlib.Core.List.{List, [], ◌∷◌}
use mathlib.Core.Bool.{Bool, true, false, ◌||◌, false≢true}
use lib.Dec.{eqb}
use native.Mathlib.Omega.{arith}
use borrow.Author.Tests.{eqb-true, eqb-false}
use Rattle.be.specs.Numbers.{be32_at}
use Rattle.be.proofs.ByteLaws.{be32_part}
use Rattle.format.specs.declared.section.Section.{Section}
use Rattle.format.specs.declared.section.Structure.TheVariants.{Header}
use Rattle.format.specs.declared.records.IndexRecord.{IndexRecord}
use Rattle.format.specs.Places.{in_file}
use Rattle.entries.specs.Types.{element_size}
use Rattle.entries.specs.Entries.{record_at}
use Rattle.index.specs.Lookup.{tagged_in, entry_at, found_bytes}
use Rattle.structure.specs.Structure.{section_at}
use Rattle.catalogue.specs.declared.Line.{Line}
use Rattle.catalogue.specs.declared.Status.TheVariants.{Optional, Required}
use Rattle.catalogue.specs.Catalogue.{signature_lines, header_lines, signature_count, line_count, catalogue, line_at, in_edition}
use Rattle.catalogue.specs.Lists.{had_line}
use Rattle.catalogue.proofs.ListLaws.{listed_signature, listed_header}
use Rattle.rules.specs.Rules.{size_tag_check}
use Rattle.reading.specs.Editions.{Edition, has_line, batch_tag}
use Rattle.reading.specs.Reading.{weight_in, sum_check}
use Rattle.demands.specs.Lawful.{HasTag, WhereTagged, HasCount, NumberIs, HasLine}
use Rattle.demands.specs.Lawful.{LawfulStructure, LawfulLine, LawfulLines}
use Rattle.demands.specs.Editions.{IsEdition}
use Rattle.demands.proofs.PassIff.{last_iff, eqb_iff, cond_iff}
use Rattle.demands.proofs.FoundLawful.{Apart, number_iff, typed_found}
use Rattle.demands.proofs.StructureLawful.{entry_sound}
use Rattle.std.specs.Prelude.{Option}
use Rattle.format.specs.Verdicts.{pass}
use Rattle.index.specs.declared.Entry.{Entry}

-- the tags of check 18 as the catalogue has them
abbrev pub OneString : List ℕ → Section → ℕ → Type 0
OneString s header tag = WhereTagged s header tag (λ (e : IndexRecord). e.ty ≡ 6) × HasCount s header tag 1

pub record TextLines (s : List ℕ) (header : Section) : Type 0 where
  pub system : OneString s header 1021
  pub pre_install : OneString s header 1085
  pub post_install : OneString s header 1086
  pub pre_remove : OneString s header 1087
  pub post_remove : OneString s header 1088
  pub directories : WhereTagged s header 1118 (λ (e : IndexRecord). e.ty ≡ 8)

-- the batch weight's
abbrev BatchLine : List ℕ → Section → Type 0
BatchLine s header = HasTag s header batch_tag × WhereTagged s header batch_tag (λ (e : IndexRecord). e.ty ≡ 4)

-- the digest's
abbrev pub DigestLine : List ℕ → Section → Type 0
DigestLine s signature =
    HasTag s signature 1004 × WhereTagged s signature 1004 (λ (e : IndexRecord). e.ty ≡ 7) × HasCount s signature 1004 16

-- a tag has a line by the test exactly where one is listed
pub has_line_lem : (tag : ℕ) (lines : List Line) → (has_line tag lines ≡ true) ↔ HasLine tag lines
unfolding has_line
has_line_lem tag [] = (λ h. absurd (false≢true h), λ h. absurd h.1)
has_line_lem tag (first ∷ rest) = go (eqb first.tag tag) refl (has_line_lem tag rest)
  where
    go : (b : Bool) → eqb first.tag tag ≡ b → (has_line tag rest ≡ true) ↔ HasLine tag rest
        → ((b || has_line tag rest) ≡ true) ↔ HasLine tag (first ∷ rest)
    go true e behind = (λ h. (first, inl refl, eqb-true first.tag tag e), λ h. refl)
    go false e behind = (
      λ h. let k = behind.0 h in (k.0, inr k.1, k.2),
      λ (line, l, t). behind.1 (line, ⊎_elim (λ q. absurd (eqb-false first.tag tag e (rw q at t))) (λ m. m) l, t),
    )

-- a line that is required is not optional
must : Required ≢ Optional
must q = let z : ◌≡◌ {A = ℕ} 0 1 = cc in absurd (omega arith)

-- by their numbers in the catalogue
module _ (edition : Edition) (is : IsEdition edition) (s : List ℕ) (signature header : Section)
    (lines : LawfulLines edition s signature header) where
  in_signature : (i : ℕ) → i < signature_count → in_edition 1 (line_at i) ≡ true → LawfulLine s signature (had_line (line_at i))
  in_signature i l h = lines.0 (had_line (line_at i)) (is.keeps_first.signature (had_line (line_at i)) (listed_signature 1 i l h))

  in_header : (i : ℕ) → signature_count ≤ i → i < line_count → in_edition 1 (line_at i) ≡ true
      → LawfulLine s header (had_line (line_at i))
  in_header i l m h = lines.1 (had_line (line_at i)) (is.keeps_first.header (had_line (line_at i)) (listed_header 1 i l m h))

  pub size_there : HasTag s signature 1000
  unfolding line_at catalogue signature_lines header_lines
  size_there = (in_signature 3 (omega arith) refl).required must

  pub digest_there : DigestLine s signature
  unfolding line_at catalogue signature_lines header_lines
  digest_there =
      let k = in_signature 5 (omega arith) refl in
      (k.required must, k.type', k.count 16 refl)

  pub states_there : HasTag s header 1028
  unfolding line_at catalogue signature_lines header_lines
  states_there = (in_header 34 (omega arith) (omega arith) refl).required must

  pub locales_there : HasTag s header 100
  unfolding line_at catalogue signature_lines header_lines
  locales_there = (in_header 13 (omega arith) (omega arith) refl).required must

  pub batch_there : HasLine batch_tag edition.header → BatchLine s header
  batch_there (line, l, t) =
      let k = rw (is.batch line l t) at (lines.1 line l) in
      (k.required must, k.type')

  pub text_lines : TextLines s header
  unfolding line_at catalogue signature_lines header_lines
  text_lines =
      record {
        system = let k = in_header 27 (omega arith) (omega arith) refl in (k.type', k.count 1 refl);
        pre_install = let k = in_header 57 (omega arith) (omega arith) refl in (k.type', k.count 1 refl);
        post_install = let k = in_header 58 (omega arith) (omega arith) refl in (k.type', k.count 1 refl);
        pre_remove = let k = in_header 59 (omega arith) (omega arith) refl in (k.type', k.count 1 refl);
        post_remove = let k = in_header 60 (omega arith) (omega arith) refl in (k.type', k.count 1 refl);
        directories = (in_header 72 (omega arith) (omega arith) refl).type';
      }

-- 16
pub size_lawful : (s : List ℕ) (len : ℕ) (signature header : Section) → Apart s signature → HasTag s signature 1000
    → (size_tag_check s len signature header (tagged_in s signature) ≡ pass)
    ↔ NumberIs s signature 1000 (len - header.start.0)
unfolding size_tag_check
size_lawful s len signature header apart h = simp (last_iff, eqb_iff, number_iff s signature apart 1000) Iff.rfl

-- 23
module _ (s : List ℕ) (start : ℕ) (lawful : LawfulStructure Header s start) where
  -- the number that a look-up shows is that of the record
  shown_number : (i : ℕ) → i < (section_at s start).nindex → (record_at s (section_at s start) i).tag ≡ batch_tag
      → (record_at s (section_at s start) i).ty ≡ 4
      → weight_in s (section_at s start) ≡ be32_at s (in_file (section_at s start) (record_at s (section_at s start) i).offset)
  unfolding element_size
  shown_number i l t q =
      let header = section_at s start in
      let entry = entry_at s header i in
      let sound = entry_sound Header s start lawful i l in
      let size = sound.fixed 4 (ap element_size q) in
      let some = sound.some in
      ap (λ (f : Option Entry). be32_at (found_bytes s f) 0) (typed_found s header lawful.tags batch_tag 4 i l t q)
      ∙ be32_part s entry.at.0 entry.extent (omega arith)

  batch_number : (sum : ℕ) → BatchLine s (section_at s start)
      → (weight_in s (section_at s start) ≡ sum) ↔ NumberIs s (section_at s start) batch_tag sum
  batch_number sum ((i, l, t), typed) = (
    λ h j m u. sym (shown_number j m u (typed j m u)) ∙ h,
    λ h. shown_number i l t (typed i l t) ∙ h i l t,
  )

  pub batch_lawful : (edition : Edition) (sum : ℕ) → (HasLine batch_tag edition.header → BatchLine s (section_at s start))
      → (sum_check edition s (section_at s start) sum ≡ pass)
      ↔ (HasLine batch_tag edition.header → NumberIs s (section_at s start) batch_tag sum)
  unfolding sum_check
  batch_lawful edition sum led =
      simp (cond_iff, last_iff, eqb_iff, has_line_lem)
      (λ h b. (batch_number sum (led b)).0 (h b), λ h b. (batch_number sum (led b)).1 (h b))
