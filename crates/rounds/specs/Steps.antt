-- What the contracts of the loops cite: no part of RFC 1321. A step is an operation with the registers moved one place on
-- afterwards, so that every step sets the same one; k, s and i come from the round and the step's number in it.
use Rattle.std.specs.Prelude.{ℕ, zero, suc, ◌+◌, ◌*◌, ◌%◌, ◌^◌, List, [], ◌∷◌, get_or}
use Rattle.words.specs.declared.State.{State}
use Rattle.words.specs.declared.Round.{Round}
use Rattle.words.specs.declared.Round.TheVariants.{One, Two, Three, Four}
use Rattle.words.specs.Words.{word_at, plus, rotated, auxiliary}

unfoldable pub word_of : Round → ℕ → ℕ
word_of One n = n
word_of Two n = (5 * n + 1) % 16
word_of Three n = (3 * n + 5) % 16
word_of Four n = 7 * n % 16

abbrev pub first_of : Round → ℕ
first_of One = 0
first_of Two = 16
first_of Three = 32
first_of Four = 48

unfoldable pub shifts : Round → List ℕ
shifts One = 7 ∷ 12 ∷ 17 ∷ 22 ∷ []
shifts Two = 5 ∷ 9 ∷ 14 ∷ 20 ∷ []
shifts Three = 4 ∷ 11 ∷ 16 ∷ 23 ∷ []
shifts Four = 6 ∷ 10 ∷ 15 ∷ 21 ∷ []

unfoldable pub shift_of : Round → ℕ → ℕ
shift_of r n = get_or (shifts r) (n % 4) 0

unfoldable pub turned : State → (mixed x t s : ℕ) → State
turned q mixed x t s =
    record { a = q.d; b = plus q.b (rotated ((q.a + mixed + x + t) % 2 ^ 32) s); c = q.b; d = q.c }

unfoldable pub step : Round → (X T : List ℕ) → ℕ → State → State
step r X T n q =
    turned q (auxiliary r q.b q.c q.d) (word_at X (word_of r n)) (get_or T (first_of r + n) 0) (shift_of r n)

-- so many steps from the n-th on
unfoldable pub steps : Round → (X T : List ℕ) → ℕ → ℕ → State → State
steps r X T zero n q = q
steps r X T (suc m) n q = steps r X T m (n + 1) (step r X T n q)
