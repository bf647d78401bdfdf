-- The places of weighed records from a place on, for each way through a turn (weighed_first, remark_first, none_left). For
-- callers: a book's doses are those at these places (doses_there).
use Rattle.std.proofs.Common.{ℕ, ◌+◌, ◌≤◌, ◌<◌, ◌≡◌, refl, sym, ap, ◌∙◌, List, [], ◌∷◌, Bool, true, false, cond, length, map}
use Rattle.book.specs.Kinds.{is_weighed, body_size}
use Rattle.book.specs.Book.{kind_at, dose_at}
use Rattle.book.specs.Doses.{weighed_of, doses_by, doses_of}
use Rattle.book.specs.Weighings.{left_from}
use Rattle.book.proofs.PlaceLaws.{none, end_of}
use Rattle.book.proofs.RecordsLaws.{walk}

step : (b rest : List ℕ) (at : ℕ)
    → weighed_of b (at ∷ rest) ≡ cond (is_weighed (kind_at b at)) (at ∷ weighed_of b rest) (weighed_of b rest)
unfolding weighed_of
step b rest at = refl

module _ (b : List ℕ) (at : ℕ) (l : at < length b) {size : ℕ} (e : size ≡ body_size (kind_at b at)) {w : Bool}
    (h : w ≡ is_weighed (kind_at b at)) where
  pub weighed_first : w ≡ true → left_from b at ≡ at ∷ left_from b (at + 1 + size)
  weighed_first k = ap (weighed_of b) (walk b at l (end_of b at e)) ∙ step b _ at ∙ rw (sym h ∙ k)

  pub remark_first : w ≡ false → left_from b at ≡ left_from b (at + 1 + size)
  remark_first k = ap (weighed_of b) (walk b at l (end_of b at e)) ∙ step b _ at ∙ rw (sym h ∙ k)

pub none_left : (b : List ℕ) (at : ℕ) → length b ≤ at → left_from b at ≡ []
unfolding weighed_of
none_left b at h = ap (weighed_of b) (none b _ at h)

pub doses_there : (b ps : List ℕ) → doses_of b ps ≡ map (dose_at b) (weighed_of b ps)
unfolding doses_by weighed_of
doses_there b [] = refl
doses_there b (at ∷ rest) = go (is_weighed (kind_at b at)) (doses_there b rest)
  where
    go : (w : Bool) → doses_of b rest ≡ map (dose_at b) (weighed_of b rest)
        → cond w (dose_at b at ∷ doses_of b rest) (doses_of b rest)
        ≡ map (dose_at b) (cond w (at ∷ weighed_of b rest) (weighed_of b rest))
    go true h = rw h
    go false h = h
