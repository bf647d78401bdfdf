-- The entries of a lent list, turn by turn: entries_step, entries_none, and how many there are, entries_total. Their sizes
-- together: sizes_step, sizes_turn, sizes_past, sizes_spent. An entry's 16
-- bytes: record_whole.
use Prim.Native.Nat.{ℕ, zero, suc, ◌+◌, ◌-◌, ◌*◌, ◌≤◌, ◌<◌}
use mathlib.Core.Path.{◌≡◌, refl, sym, ap, ◌∙◌}
use mathlib.Core.List.{List, [], ◌∷◌}
use mathlib.Core.Bool.{Bool, true, false}
use lib.ListN.{length}
use lib.Dec.{eqb}
use native.Mathlib.Omega.{arith}
use borrow.Author.Tests.{eq-eqb, ne_eqb, eqb-true, eqb-false, le-leb}
use Rattle.lists.specs.declared.ListRecord.{ListRecord}
use Rattle.lists.specs.Lists.{list_record_at, record_shown, size_at, entry_at, entries_from, sizes_from}

module _ (list row : List ℕ) where
  step : (n i at : ℕ)
      → entries_from list row (suc n) i at ≡ entry_at list row i at ∷ entries_from list row n (i + 1) (at + size_at list i)
  unfolding entries_from
  step n i at = refl

  pub entries_step : (n i at : ℕ) → i < n
      → entries_from list row (n - i) i at
      ≡ entry_at list row i at ∷ entries_from list row (n - (i + 1)) (i + 1) (at + size_at list i)
  entries_step n i at l =
      let k : n - i ≡ suc (n - (i + 1)) = omega arith in
      rw k (step (n - (i + 1)) i at)

  none : (i at : ℕ) → entries_from list row 0 i at ≡ []
  unfolding entries_from
  none i at = refl

  pub entries_none : (n i at : ℕ) → n ≤ i → entries_from list row (n - i) i at ≡ []
  entries_none n i at l = let k : n - i ≡ 0 = omega arith in rw k (none i at)

  pub entries_total : (n i at : ℕ) → length (entries_from list row n i at) ≡ n
  unfolding entries_from
  entries_total zero i at = refl
  entries_total (suc n) i at = ap suc (entries_total n (i + 1) (at + size_at list i))

-- an entry's 16 bytes, which the list has
pub record_whole : (list : List ℕ) (n i : ℕ) {e : ListRecord} → 16 * n ≤ length list → i < n → e ≡ record_shown list i
    → e ≡ list_record_at list i
unfolding record_shown
record_whole list n i w l p = p ∙ rw (le-leb (16 * i + 16) (length list) (omega arith))

size_step : (list : List ℕ) (n i : ℕ) → sizes_from list (suc n) i ≡ size_at list i + sizes_from list n (i + 1)
unfolding sizes_from
size_step list n i = refl

pub sizes_step : (list : List ℕ) (n i : ℕ) → i < n
    → sizes_from list (n - i) i ≡ size_at list i + sizes_from list (n - (i + 1)) (i + 1)
sizes_step list n i l = let k : n - i ≡ suc (n - (i + 1)) = omega arith in rw k (size_step list (n - (i + 1)) i)

size_none : (list : List ℕ) (i : ℕ) → sizes_from list 0 i ≡ 0
unfolding sizes_from
size_none list i = refl

eqb_swap : (a b : ℕ) → eqb a b ≡ eqb b a
eqb_swap a b = go (eqb b a) refl
  where
    go : (t : Bool) → eqb b a ≡ t → eqb a b ≡ t
    go true h = eq-eqb a b (sym (eqb-true b a h))
    go false h = ne_eqb a b (λ q. eqb-false b a h (sym q))

-- a sum that starts with a meets c exactly when the rest meets what a leaves of c
less : (a b c : ℕ) → a ≤ c → eqb (a + b) c ≡ eqb b (c - a)
less a b c l = go (eqb b (c - a)) refl
  where
    go : (t : Bool) → eqb b (c - a) ≡ t → eqb (a + b) c ≡ t
    go true h = let e = eqb-true b (c - a) h in eq-eqb (a + b) c (omega arith)
    go false h = ne_eqb (a + b) c (λ q. eqb-false b (c - a) h (omega arith))

module _ (list : List ℕ) (n i left : ℕ) {v : Bool} (inv : v ≡ eqb (sizes_from list (n - i) i) left) where
  module _ {size : ℕ} (p : size ≡ size_at list i) (l : i < n) where
    sizes : sizes_from list (n - i) i ≡ size + sizes_from list (n - (i + 1)) (i + 1)
    sizes = sizes_step list n i l ∙ rw p

    pub sizes_turn : size ≤ left → v ≡ eqb (sizes_from list (n - (i + 1)) (i + 1)) (left - size)
    sizes_turn h = inv ∙ rw sizes (less size (sizes_from list (n - (i + 1)) (i + 1)) left h)

    pub sizes_past : left < size → false ≡ v
    sizes_past h = sym (inv ∙ rw sizes (ne_eqb (size + sizes_from list (n - (i + 1)) (i + 1)) left (λ q. omega arith)))

  pub sizes_spent : n ≤ i → eqb left 0 ≡ v
  sizes_spent l = let k : n - i ≡ 0 = omega arith in sym (inv ∙ rw (k, size_none list i) (eqb_swap 0 left))
