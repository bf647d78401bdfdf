-- Numbers compared (less, more, equal, compared, less_means, equal_means). What follows one answer or another: then_equal,
-- then_less, then_greater, then_unlike, both_equal.
use Rattle.std.proofs.Common.{◌≡◌, ℕ, ◌<◌, Ordering, Less, Equal, Greater, nat_cmp, refl, arith, lt-ltb, le-ltb, eq-eqb, ne_eqb}
use Rattle.std.proofs.lemmas.Cmp.{ranked}
use Rattle.std.specs.Ordering.{ordering_then, MatchOrdering}

-- numbers
pub less : (a b : ℕ) → a < b → nat_cmp a b ≡ Less
less a b h = rw (lt-ltb a b h)

pub more : (a b : ℕ) → b < a → nat_cmp a b ≡ Greater
more a b h = rw (le-ltb a b (omega arith), ne_eqb a b (λ e. omega arith))

pub equal : (a b : ℕ) → a ≡ b → nat_cmp a b ≡ Equal
equal a b h = rw (le-ltb a b (omega arith), eq-eqb a b h)

-- every comparison of numbers is one of three
pub data Compared (a b : ℕ) : Ordering → Type 0 where
  is_less : a < b → Compared a b Less
  is_same : a ≡ b → Compared a b Equal
  is_more : b < a → Compared a b Greater

pub compared : (a b : ℕ) → Compared a b (nat_cmp a b)
compared a b = go (nat_cmp a b) (ranked a b (nat_cmp a b) refl)
  where
    go : (o : Ordering) → MatchOrdering o (a < b) (a ≡ b) (b < a) → Compared a b o
    go Less h = is_less h
    go Equal h = is_same h
    go Greater h = is_more h

pub less_means : (a b : ℕ) {o : Ordering} → Compared a b o → o ≡ Less → a < b
less_means a b (is_less h) e = h
less_means a b (is_same h) e = absurd (grind arith)
less_means a b (is_more h) e = absurd (grind arith)

pub equal_means : (a b : ℕ) {o : Ordering} → Compared a b o → o ≡ Equal → a ≡ b
equal_means a b (is_less h) e = absurd (grind arith)
equal_means a b (is_same h) e = h
equal_means a b (is_more h) e = absurd (grind arith)

-- answers
pub both_equal : (o r : Ordering) → ordering_then o r ≡ Equal → (o ≡ Equal) × (r ≡ Equal)
both_equal Less r h = absurd (grind arith)
both_equal Equal r h = (refl, h)
both_equal Greater r h = absurd (grind arith)

pub then_equal : {o : Ordering} (r : Ordering) → o ≡ Equal → ordering_then o r ≡ r
then_equal r h = rw h

pub then_unlike : (a b : ℕ) {o : Ordering} → Compared a b o → (a ≡ b → ⊥) → (r : Ordering) → ordering_then o r ≡ o
then_unlike a b (is_less h) n r = refl
then_unlike a b (is_same h) n r = absurd (n h)
then_unlike a b (is_more h) n r = refl

pub then_other : {o : Ordering} (r : Ordering) → (o ≡ Equal → ⊥) → ordering_then o r ≡ o
then_other {o = Less} r n = refl
then_other {o = Equal} r n = absurd (n refl)
then_other {o = Greater} r n = refl

pub then_less : {o : Ordering} (r : Ordering) → o ≡ Less → ordering_then o r ≡ Less
then_less r h = rw h
