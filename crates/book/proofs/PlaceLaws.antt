-- Where records start: right behind a body (end_of), none past the end, any sufficient bound gives the same places
-- (enough), and behind a record the next one starts (first).
use Prim.Native.Nat.{ℕ, zero, suc, ◌+◌, ◌-◌, ◌≤◌, ◌<◌}
use mathlib.Core.Path.{◌≡◌, refl, sym, ap, ◌∙◌}
use mathlib.Core.List.{List, [], ◌∷◌}
use mathlib.Core.Bool.{cond}
use lib.ListN.{length}
use lib.Dec.{leb}
use native.Mathlib.Omega.{arith}
use borrow.Author.Tests.{le-leb, lt-leb}
use Rattle.book.specs.Kinds.{body_size}
use Rattle.book.specs.Book.{kind_at, record_end, places_from}

-- size is the body's, as read
pub end_of : (b : List ℕ) (at : ℕ) {size : ℕ} → size ≡ body_size (kind_at b at) → at + 1 + size ≡ record_end b at
end_of b at e = omega arith

module _ (b : List ℕ) where
  pub none : (n at : ℕ) → length b ≤ at → places_from b n at ≡ []
  unfolding places_from
  none zero at h = refl
  none (suc n) at h = rw (le-leb (length b) at h)

  pub step : (n at : ℕ) → places_from b (suc n) at ≡ cond (leb (length b) at) [] (at ∷ places_from b n (record_end b at))
  unfolding places_from
  step n at = refl

  pub enough : (n m at : ℕ) → length b ≤ at + n → length b ≤ at + m → places_from b n at ≡ places_from b m at
  enough zero m at h k = none zero at (omega arith) ∙ sym (none m at (omega arith))
  enough (suc n) zero at h k = none (suc n) at (omega arith) ∙ sym (none zero at (omega arith))
  enough (suc n) (suc m) at h k =
      let e = enough n m (record_end b at) (omega arith) (omega arith) in
      step n at
      ∙ ap (λ (l : List ℕ). cond (leb (length b) at) [] (at ∷ l)) e
      ∙ sym (step m at)

  pub first : (at : ℕ) → at < length b
      → places_from b (length b - at) at ≡ at ∷ places_from b (length b - record_end b at) (record_end b at)
  first at h =
      let k : length b - at ≡ suc (length b - at - 1) = omega arith in
      let e = enough (length b - at - 1) (length b - record_end b at) (record_end b at) (omega arith) (omega arith) in
      rw k (step (length b - at - 1) at ∙ rw (lt-leb (length b) at h, e))
