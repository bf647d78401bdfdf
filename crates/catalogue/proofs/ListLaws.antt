-- Laws of lists of lines. A line of a list above a tag has a higher one (above); the rest of a rising list rises
-- (rest_rises). Of the lines that an edition has: their tags rise (rises; of each part rises_signature, rises_header); a row
-- that the edition has is listed (listed_at; by its number in the catalogue listed_signature, listed_header); what holds of
-- each such row's line holds of each line listed (each_had); a later edition keeps them (kept).
use Prim.Native.Nat.{ℕ, zero, suc, ◌≤◌, ◌<◌, ◌-◌}
use mathlib.Core.Path.{◌≡◌, refl, sym, ap, subst}
use mathlib.Core.Logic.{inl, inr}
use mathlib.Core.List.{List, [], ◌∷◌}
use mathlib.Core.Bool.{Bool, true, false, cond}
use lib.ListN.{length, get_or}
use native.Mathlib.Omega.{arith}
use borrow.Author.Tests.{leb-true, le-leb}
use Rattle.catalogue.specs.declared.Line.{Line}
use Rattle.catalogue.specs.Catalogue.{signature_lines, header_lines, signature_count, line_count}
use Rattle.catalogue.specs.Catalogue.{no_line, line_at, in_edition, is_rising}
use Rattle.catalogue.specs.Lists.{Listed, Above, Rising, KeepsLines, had_line, lines_had, signature_of, header_of}
use Rattle.catalogue.proofs.CatalogueLaws.{length_signature, length_header, signature_at, header_at_lem}
use Rattle.catalogue.proofs.CatalogueLaws.{rising_parts, parts_rise}

pub above : (tag : ℕ) (lines : List Line) → Above tag lines → (line : Line) → Listed line lines → tag < line.tag
above tag [] a line l = absurd l
above tag (other ∷ rest) a line (inl e) =
    let b = a.0 in let k : line.tag ≡ other.tag = ap (λ (l : Line). l.tag) e in omega arith
above tag (other ∷ rest) a line (inr l) = let b = a.0 in let k = above other.tag rest a.1 line l in omega arith

pub rest_rises : (line : Line) (rest : List Line) → Above line.tag rest → Rising rest
rest_rises line [] a = tt
rest_rises line (other ∷ rest) a = a.1

module _ (edition : ℕ) where
  -- the lines behind row a stand above its tag, and above any lower one
  had_above : (a : Line) (rows : List Line) → is_rising (a ∷ rows) ≡ true
      → (tag : ℕ) → tag ≤ a.tag → Above tag (lines_had edition rows)
  unfolding lines_had
  had_above a [] t tag l = tt
  had_above a (b ∷ rest) t tag l =
      let p = rising_parts a b rest t in
      let m : tag < b.tag = let k = p.0 in omega arith in
      go (in_edition edition b) m (had_above b rest p.1)
    where
      go : (c : Bool) → tag < b.tag → ((least : ℕ) → least ≤ b.tag → Above least (lines_had edition rest))
          → Above tag (cond c (had_line b ∷ lines_had edition rest) (lines_had edition rest))
      go true m behind = (m, behind b.tag (omega arith))
      go false m behind = behind tag (omega arith)

  pub rises : (rows : List Line) → is_rising rows ≡ true → Rising (lines_had edition rows)
  unfolding lines_had
  rises [] t = tt
  rises (a ∷ rest) t = go (in_edition edition a) (had_above a rest t a.tag (omega arith))
    where
      go : (c : Bool) → Above a.tag (lines_had edition rest)
          → Rising (cond c (had_line a ∷ lines_had edition rest) (lines_had edition rest))
      go true behind = behind
      go false behind = rest_rises (had_line a) (lines_had edition rest) behind

  pub rises_signature : Rising (signature_of edition)
  rises_signature = rises signature_lines parts_rise.0

  pub rises_header : Rising (header_of edition)
  rises_header = rises header_lines parts_rise.1

  -- a row that the edition has is listed
  pub listed_at : (rows : List Line) (i : ℕ) → i < length rows → in_edition edition (get_or rows i no_line) ≡ true
      → Listed (had_line (get_or rows i no_line)) (lines_had edition rows)
  unfolding lines_had
  listed_at [] i h e = absurd (omega arith)
  listed_at (a ∷ rest) zero h e = rw e (inl refl)
  listed_at (a ∷ rest) (suc i) h e = go (in_edition edition a) _ (listed_at rest i (omega arith) e)
    where
      go : (c : Bool) (line : Line) → Listed line (lines_had edition rest)
          → Listed line (cond c (had_line a ∷ lines_had edition rest) (lines_had edition rest))
      go true line l = inr l
      go false line l = l

  pub listed_signature : (i : ℕ) → i < signature_count → in_edition edition (line_at i) ≡ true
      → Listed (had_line (line_at i)) (signature_of edition)
  listed_signature i h =
      rw (signature_at i h) (listed_at signature_lines i (rw length_signature h))

  pub listed_header : (i : ℕ) → signature_count ≤ i → i < line_count → in_edition edition (line_at i) ≡ true
      → Listed (had_line (line_at i)) (header_of edition)
  listed_header i from h =
      rw (header_at_lem i from) (listed_at header_lines (i - signature_count) (omega (arith, length_header)))

  -- what holds of the line of each row that the edition has holds of each line listed
  pub each_had : (P : Line → Type 0) (rows : List Line)
      → ((i : ℕ) → i < length rows → in_edition edition (get_or rows i no_line) ≡ true → P (had_line (get_or rows i no_line)))
      → (line : Line) → Listed line (lines_had edition rows) → P line
  unfolding lines_had
  each_had P [] f line l = absurd l
  each_had P (a ∷ rest) f line l =
      go (in_edition edition a) refl l (each_had P rest (λ i h. f (suc i) (omega arith)) line)
    where
      go : (c : Bool) → in_edition edition a ≡ c
          → Listed line (cond c (had_line a ∷ lines_had edition rest) (lines_had edition rest))
          → (Listed line (lines_had edition rest) → P line) → P line
      go true e (inl q) behind = subst P (sym q) (f 0 (omega arith) e)
      go true e (inr m) behind = behind m
      go false e m behind = behind m

pub kept : (edition later : ℕ) → edition ≤ later → (rows : List Line)
    → KeepsLines (lines_had edition rows) (lines_had later rows)
kept edition later l rows =
    each_had edition (λ (line : Line). Listed line (lines_had later rows)) rows
    (λ i h e. let k = leb-true _ edition e in listed_at later rows i h (le-leb _ later (omega arith)))
