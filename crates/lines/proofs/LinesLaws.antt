-- Laws of `lines_of` over the lines that an edition has: a line is not tried (skipped), passes (turn) or decides (ends), or none
-- is left (spent). The catalogue's parts: of_signature, of_header.
use Prim.Native.Nat.{ℕ, ◌+◌, ◌-◌, ◌≤◌, ◌<◌}
use mathlib.Core.Path.{◌≡◌, refl, sym, ◌∙◌}
use mathlib.Core.List.{List, ◌∷◌}
use mathlib.Core.Bool.{Bool, true, false, cond}
use lib.ListN.{length, get_or, take, drop}
use Rattle.std.proofs.lemmas.List.{at_drop_more, at_drop_all}
use Rattle.format.specs.Verdicts.{both, Verdict, pass}
use Rattle.format.specs.declared.verdict.Refusal.{Refusal}
use Rattle.format.proofs.VerdictLaws.{both_pass, both_fail}
use Rattle.catalogue.specs.declared.Line.{Line}
use Rattle.catalogue.specs.declared.Status.TheVariants.{Optional, Required}
use Rattle.catalogue.specs.Catalogue.{signature_lines, header_lines, catalogue, signature_count, line_count}
use Rattle.catalogue.specs.Catalogue.{no_line, in_edition, must_be_present, is_required, is_as_line}
use Rattle.catalogue.specs.Lists.{had_line, lines_had, signature_of, header_of}
use Rattle.tags.specs.Tags.{Look}
use Rattle.lines.specs.Lines.{line_check_as, line_check, lines_of}
use Rattle.std.specs.Prelude.{Option, Some, None, Err}
use Rattle.format.specs.declared.records.IndexRecord.{IndexRecord}

-- 14 and 15 do not ask with which edition a line begins
same_required : (b : Bool) → must_be_present (cond b Required Optional) ≡ b
same_required true = refl
same_required false = refl

same_check : (line : Line) (found : Option IndexRecord) → line_check_as (had_line line) found ≡ line_check_as line found
unfolding is_as_line
same_check line None = rw (same_required (is_required line))
same_check line (Some e) = refl

-- what the lines from number i on come to, by what is known in a turn: b is whether the edition has line i, r what its check found
module _ (edition : ℕ) (look : Look) (lines : List Line) (i : ℕ) {v : Verdict}
    (inv : v ≡ lines_of look (lines_had edition (drop i lines)))
  where
    module _ {b : Bool} (p : b ≡ in_edition edition (get_or lines i no_line)) (l : i < length lines) where
      next : lines_of look (lines_had edition (drop i lines))
          ≡ lines_of look (lines_had edition (get_or lines i no_line ∷ drop (i + 1) lines))
      next = at_drop_more (λ (rest : List Line). lines_of look (lines_had edition rest)) lines i no_line l

      pub skipped : b ≡ false → v ≡ lines_of look (lines_had edition (drop (i + 1) lines))
      unfolding lines_had
      skipped t = inv ∙ next ∙ rw (sym p ∙ t) refl

      module _ (t : b ≡ true) {r : Verdict} (q : r ≡ line_check look (get_or lines i no_line)) where
        tried : v ≡ both r (lines_of look (lines_had edition (drop (i + 1) lines)))
        unfolding lines_of lines_had
        tried = inv ∙ next ∙ rw (sym p ∙ t, same_check (get_or lines i no_line) (look (get_or lines i no_line).tag), q) refl

        pub turn : r ≡ pass → v ≡ lines_of look (lines_had edition (drop (i + 1) lines))
        turn k = tried ∙ both_pass k

        pub ends : {e : Refusal} → r ≡ Err e → Err e ≡ v
        ends k = sym (tried ∙ both_fail _ k)

    pub spent : length lines ≤ i → pass ≡ v
    unfolding lines_of lines_had
    spent l = sym (inv ∙ at_drop_all (λ (rest : List Line). lines_of look (lines_had edition rest)) lines i l)

-- the parts of the catalogue
signature_part : take signature_count catalogue ≡ signature_lines
unfolding catalogue signature_lines
signature_part = refl

header_part : take (line_count - signature_count) (drop signature_count catalogue) ≡ header_lines
unfolding catalogue signature_lines header_lines
header_part = refl

module _ (edition : ℕ) (look : Look) {table : List Line} {v : Verdict} (e : table ≡ catalogue) where
  pub of_signature : v ≡ lines_of look (lines_had edition (take signature_count table)) → v ≡ lines_of look (signature_of edition)
  of_signature p = p ∙ rw (e, signature_part) refl

  pub of_header : v ≡ lines_of look (lines_had edition (take (line_count - signature_count) (drop signature_count table)))
      → v ≡ lines_of look (header_of edition)
  of_header p = p ∙ rw (e, header_part) refl
