-- Two lists of lines with rising tags, of which the later keeps the earlier's: equal verdicts, or the later stops with 14 or 15
-- at a line that it adds (lines_agree).
use Prim.Native.Nat.{ℕ, ◌<◌}
use mathlib.Core.Path.{◌≡◌, refl, ap}
use mathlib.Core.Logic.{◌⊎◌, inl, inr, ⊎_map, ◌≢◌}
use mathlib.Core.List.{List, [], ◌∷◌}
use mathlib.Core.Bool.{Bool, true, false, not}
use native.Mathlib.Omega.{arith}
use Rattle.format.specs.Verdicts.{check, both, Verdict, pass, refusal}
use Rattle.format.proofs.VerdictLaws.{both_fail}
use Rattle.catalogue.specs.declared.Line.{Line}
use Rattle.catalogue.specs.Catalogue.{is_required, is_as_line}
use Rattle.catalogue.specs.Lists.{Listed, Above, Rising, KeepsLines}
use Rattle.catalogue.proofs.ListLaws.{above, rest_rises}
use Rattle.tags.specs.Tags.{Look}
use Rattle.lines.specs.Lines.{line_check_as, line_check, lines_of}
use Rattle.demands.specs.Editions.{Added}
use Rattle.std.specs.Prelude.{Option, Some, None, Ok, Err}
use Rattle.format.specs.declared.records.IndexRecord.{IndexRecord}

-- a line's own verdict passes, or is 14 or 15 with its tag
tried : (ok : Bool) (number place : ℕ) → (check ok number place pass ≡ pass) ⊎ (check ok number place pass ≡ Err (refusal number place))
unfolding check
tried true number place = inl refl
tried false number place = inr refl

abbrev pub Refuses : Verdict → ℕ → Type 0
Refuses v tag = (v ≡ Err (refusal 14 tag)) ⊎ (v ≡ Err (refusal 15 tag))

pub refuses_stays : (v w : Verdict) (tag : ℕ) → Refuses v tag → Refuses (both v w) tag
refuses_stays v w tag (inl h) = inl (both_fail w h)
refuses_stays v w tag (inr h) = inr (both_fail w h)

line_refusal : (line : Line) (found : Option IndexRecord) → (line_check_as line found ≡ pass) ⊎ Refuses (line_check_as line found) line.tag
line_refusal line None = ⊎_map (λ h. h) inl (tried (not (is_required line)) 14 line.tag)
line_refusal line (Some e) = ⊎_map (λ h. h) inr (tried (is_as_line line e.ty e.count) 15 line.tag)

-- a refusal at a line that is added
abbrev pub ByLine : List Line → List Line → Verdict → Type 0
ByLine earlier later v = (line : Line) × Added earlier later line × Refuses v line.tag

module _ (look : Look) where
  abbrev LinesAgree : List Line → List Line → Type 0
  LinesAgree earlier later = (lines_of look earlier ≡ lines_of look later) ⊎ ByLine earlier later (lines_of look later)

  -- a line that the later list adds in front
  add_front : (earlier : List Line) (line : Line) (rest : List Line)
      → ((old : Line) → Listed old earlier → line.tag < old.tag)
      → LinesAgree earlier rest → LinesAgree earlier (line ∷ rest)
  unfolding lines_of both
  add_front earlier line rest below q = go (line_refusal line (look line.tag)) q
    where
      go : (line_check look line ≡ pass) ⊎ Refuses (line_check look line) line.tag → LinesAgree earlier rest
          → (lines_of look earlier ≡ both (line_check look line) (lines_of look rest))
          ⊎ ByLine earlier (line ∷ rest) (both (line_check look line) (lines_of look rest))
      go (inl h) (inl e) = inl (rw h e)
      go (inl h) (inr (other, a, r)) = inr (other, record { listed = inr a.listed; without = a.without }, rw h r)
      go (inr r) _ =
          inr (
            line,
            record { listed = inl refl; without = λ old l. λ e. let k = below old l in omega arith },
            refuses_stays (line_check look line) (lines_of look rest) line.tag r,
          )

  -- a line that both have in front
  keep_front : (line : Line) (earlier later : List Line) → Above line.tag later → LinesAgree earlier later
      → LinesAgree (line ∷ earlier) (line ∷ later)
  unfolding lines_of both
  keep_front line earlier later a q = go (line_check look line) q
    where
      go : (v : Verdict) → LinesAgree earlier later
          → (both v (lines_of look earlier) ≡ both v (lines_of look later))
          ⊎ ByLine (line ∷ earlier) (line ∷ later) (both v (lines_of look later))
      go (Ok _) (inl e) = inl e
      go (Ok _) (inr (other, d, r)) = inr (other, record { listed = inr d.listed; without = without }, r)
        where
          without : (old : Line) → Listed old (line ∷ earlier) → old.tag ≢ other.tag
          without old (inl e) = λ f.
              let k = above line.tag later a other d.listed in
              let m : old.tag ≡ line.tag = ap (λ (l : Line). l.tag) e in
              omega arith
          without old (inr l) = d.without old l
      go (Err e) q = inl refl

  pub lines_agree : (earlier later : List Line) → Rising earlier → Rising later → KeepsLines earlier later
      → LinesAgree earlier later
  lines_agree [] [] r r' k = inl refl
  lines_agree (x ∷ xs) [] r r' k = absurd (k x (inl refl))
  lines_agree [] (y ∷ ys) r r' k =
      add_front [] y ys (λ old l. absurd l) (lines_agree [] ys tt (rest_rises y ys r') (λ line l. absurd l))
  lines_agree (x ∷ xs) (y ∷ ys) r r' k =
      go (k x (inl refl)) (λ keeps. lines_agree xs ys (rest_rises x xs r) (rest_rises y ys r') keeps)
      (λ keeps. lines_agree (x ∷ xs) ys r (rest_rises y ys r') keeps)
    where
      same_tag : (line other : Line) → line ≡ other → line.tag ≡ other.tag
      same_tag line other e = ap (λ (q : Line). q.tag) e

      -- a line that the later list has is in its rest, where it is not its first
      strip : (line : Line) → (line.tag ≡ y.tag → ⊥) → (line ≡ y) ⊎ Listed line ys → Listed line ys
      strip line n (inl f) = absurd (n (same_tag line y f))
      strip line n (inr m) = m

      below : Listed x ys → (old : Line) → Listed old (x ∷ xs) → y.tag < old.tag
      below in_rest old (inl e) =
          let m = same_tag old x e in let f = above y.tag ys r' x in_rest in omega arith
      below in_rest old (inr l) =
          let a = above x.tag xs r old l in let f = above y.tag ys r' x in_rest in omega arith

      go : (x ≡ y) ⊎ Listed x ys → (KeepsLines xs ys → LinesAgree xs ys) → (KeepsLines (x ∷ xs) ys → LinesAgree (x ∷ xs) ys)
          → LinesAgree (x ∷ xs) (y ∷ ys)
      go (inl e) both_rest later-rest =
          rw e (keep_front y xs ys r'
          (both_rest (λ line l.
          strip line (λ m. let a = above x.tag xs r line l in let b = same_tag x y e in omega arith) (k line (inr l)))))
      go (inr in_rest) both_rest later-rest =
          add_front (x ∷ xs) y ys (below in_rest)
          (later-rest (λ line l. strip line (λ m. let a = below in_rest line l in omega arith) (k line l)))
