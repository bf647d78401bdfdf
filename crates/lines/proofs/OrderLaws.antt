-- Checks 14 and 15 in tag order where tags rise (lines_in_order), which they do in every edition (editions_rise). The
-- catalogue's lawful types: types_alike, lines_lawful.
use Prim.Native.Nat.{ℕ, ◌<◌}
use mathlib.Core.Path.{◌≡◌, refl, sym, ap, ◌∙◌}
use mathlib.Core.Logic.{◌⊎◌, inl, inr}
use mathlib.Core.List.{List, [], ◌∷◌}
use mathlib.Core.Bool.{Bool, true, false, cond, not, ◌||◌}
use lib.Dec.{eqb}
use native.Mathlib.Omega.{arith}
use Rattle.format.specs.Verdicts.{check, pass, refusal}
use Rattle.format.proofs.VerdictLaws.{refusal_same, both_inverted, both_failed}
use Rattle.format.proofs.FirstLaws.{pass_not_fail}
use Rattle.entries.specs.declared.types.ElementSize.TheVariants.{Bytes, ToZero}
use Rattle.entries.specs.Types.{element_size, is_lawful}
use Rattle.catalogue.specs.declared.Line.{Line}
use Rattle.catalogue.specs.Catalogue.{is_required, is_as_line, line_at, is_lawful_type}
use Rattle.catalogue.specs.Lists.{Listed, Above, Rising}
use Rattle.catalogue.proofs.CatalogueLaws.{lawful}
use Rattle.catalogue.proofs.ListLaws.{above, rest_rises, rises_signature, rises_header}
use Rattle.tags.specs.Tags.{Look}
use Rattle.lines.specs.Lines.{line_check_as, line_check, lines_of, lines_check}
use Rattle.lines.specs.Order.{InPart, LinesInOrder, EditionsRise, TypesAlike, LinesLawful}
use Rattle.std.specs.Prelude.{Option, Some, None, Err}
use Rattle.format.specs.declared.records.IndexRecord.{IndexRecord}

-- a line that is refused is refused with its tag
check_place : (ok : Bool) (number place : ℕ) {number' place' : ℕ} → check ok number place pass ≡ Err (refusal number' place')
    → place ≡ place'
unfolding check
check_place true number place h = absurd (pass_not_fail h)
check_place false number place h = (refusal_same h).1

line_place : (line : Line) (found : Option IndexRecord) {number place : ℕ} → line_check_as line found ≡ Err (refusal number place) → line.tag ≡ place
line_place line None h = check_place (not (is_required line)) 14 line.tag h
line_place line (Some e) h = check_place (is_as_line line e.ty e.count) 15 line.tag h

module _ (look : Look) where
  all_pass : (lines : List Line) → lines_of look lines ≡ pass → (line : Line) → Listed line lines → line_check look line ≡ pass
  unfolding lines_of
  all_pass [] h line l = absurd l
  all_pass (first ∷ rest) h line (inl e) = rw e (both_inverted (line_check look first) (lines_of look rest) h).0
  all_pass (first ∷ rest) h line (inr l) = all_pass rest (both_inverted (line_check look first) (lines_of look rest) h).1 line l

  module _ {number tag : ℕ} where
    in_first : (line : Line) (rest : List Line) → Above line.tag rest → line_check look line ≡ Err (refusal number tag)
        → InPart (line ∷ rest) look number tag
    in_first line rest a h =
        record { line = line; listed = inl refl; tagged = at_tag; refused = h; lower = lower }
      where
        at_tag : line.tag ≡ tag
        at_tag = line_place line (look line.tag) h

        lower : (other : Line) → Listed other (line ∷ rest) → other.tag < tag → line_check look other ≡ pass
        lower other (inl e) t = let k : other.tag ≡ line.tag = ap (λ (l : Line). l.tag) e in absurd (omega (arith, at_tag))
        lower other (inr l) t = let k = above line.tag rest a other l in absurd (omega (arith, at_tag))

    in_rest : (line : Line) (rest : List Line) → line_check look line ≡ pass → InPart rest look number tag
        → InPart (line ∷ rest) look number tag
    in_rest line rest h p =
        record { line = p.line; listed = inr p.listed; tagged = p.tagged; refused = p.refused; lower = lower }
      where
        lower : (other : Line) → Listed other (line ∷ rest) → other.tag < tag → line_check look other ≡ pass
        lower other (inl e) t = rw e h
        lower other (inr l) t = p.lower other l t

    in_part : (lines : List Line) → Rising lines → lines_of look lines ≡ Err (refusal number tag) → InPart lines look number tag
    unfolding lines_of
    in_part [] r h = absurd (pass_not_fail h)
    in_part (line ∷ rest) r h =
        go (both_failed (line_check look line) (lines_of look rest) h) (in_part rest (rest_rises line rest r))
      where
        go : (line_check look line ≡ Err (refusal number tag)) ⊎ ((line_check look line ≡ pass) × (lines_of look rest ≡ Err (refusal number tag)))
            → (lines_of look rest ≡ Err (refusal number tag) → InPart rest look number tag) → InPart (line ∷ rest) look number tag
        go (inl f) behind = in_first line rest r f
        go (inr (p, f)) behind = in_rest line rest p (behind f)

pub lines_in_order : LinesInOrder
unfolding lines_check
lines_in_order ofSignature ofHeader r r' signature header number tag h =
    go (both_failed (lines_of signature ofSignature) (lines_of header ofHeader) h)
  where
    go : (lines_of signature ofSignature ≡ Err (refusal number tag))
        ⊎ ((lines_of signature ofSignature ≡ pass) × (lines_of header ofHeader ≡ Err (refusal number tag)))
        → InPart ofSignature signature number tag
        ⊎ (((line : Line) → Listed line ofSignature → line_check signature line ≡ pass) × InPart ofHeader header number tag)
    go (inl f) = inl (in_part signature ofSignature r f)
    go (inr (p, f)) = inr (all_pass signature ofSignature p, in_part header ofHeader r' f)

pub editions_rise : EditionsRise
editions_rise edition = (rises_signature edition, rises_header edition)

-- the two tests of a type, by the types it may be: char, int8, int16, int32, string, bin, string array, translated string
alike : (a b c d e f g h : Bool) → (a || b || c || d || e || f || g || h)
    ≡ is_lawful (cond (a || b || f) (Some (Bytes 1)) (cond c (Some (Bytes 2)) (cond d (Some (Bytes 4)) (cond (e || g || h) (Some ToZero) None))))
alike true b c d e f g h = refl
alike false true c d e f g h = refl
alike false false true d e true g h = refl
alike false false true d e false g h = refl
alike false false false true e true g h = refl
alike false false false true e false g h = refl
alike false false false false true true g h = refl
alike false false false false true false g h = refl
alike false false false false false true g h = refl
alike false false false false false false true h = refl
alike false false false false false false false true = refl
alike false false false false false false false false = refl

pub types_alike : TypesAlike
unfolding is_lawful_type element_size
types_alike ty = alike (eqb ty 1) (eqb ty 2) (eqb ty 3) (eqb ty 4) (eqb ty 6) (eqb ty 7) (eqb ty 8) (eqb ty 9)

pub lines_lawful : LinesLawful
lines_lawful i h = sym (types_alike (line_at i).ty) ∙ lawful.types_lawful i h
