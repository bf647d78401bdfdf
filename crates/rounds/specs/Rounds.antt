-- RFC 1321, 3.4: "Process Message in 16-Word Blocks".
use Rattle.std.specs.Prelude.{ℕ, zero, suc, ◌+◌, ◌-◌, ◌%◌, ◌^◌, List, [], ◌∷◌, get_or, take, drop}
use Rattle.words.specs.declared.State.{State}
use Rattle.words.specs.declared.Round.{Round}
use Rattle.words.specs.declared.Round.TheVariants.{One, Two, Three, Four}
use Rattle.words.specs.Words.{word_at, plus, rotated, auxiliary, increased}

-- "Let [abcd k s i] denote the operation a = b + ((a + F(b,c,d) + X[k] + T[i]) <<< s)", with G, H and I in the other rounds.
-- X is the block, T the table.
unfoldable pub assigned : (ℕ → ℕ → ℕ → ℕ) → (X T : List ℕ) → (k s i a b c d : ℕ) → ℕ
assigned F X T k s i a b c d = plus b (rotated ((a + F b c d + word_at X k + get_or T (i - 1) 0) % 2 ^ 32) s)

-- an operation, with the registers in the order in which it names them
pub data Operation : Type 0 where
  ABCD : (k s i : ℕ) → Operation
  DABC : (k s i : ℕ) → Operation
  CDAB : (k s i : ℕ) → Operation
  BCDA : (k s i : ℕ) → Operation

-- it sets the first register that it names
unfoldable pub operated : (ℕ → ℕ → ℕ → ℕ) → (X T : List ℕ) → Operation → State → State
operated F X T (ABCD k s i) q = record { a = assigned F X T k s i q.a q.b q.c q.d; b = q.b; c = q.c; d = q.d }
operated F X T (DABC k s i) q = record { a = q.a; b = q.b; c = q.c; d = assigned F X T k s i q.d q.a q.b q.c }
operated F X T (CDAB k s i) q = record { a = q.a; b = q.b; c = assigned F X T k s i q.c q.d q.a q.b; d = q.d }
operated F X T (BCDA k s i) q = record { a = q.a; b = assigned F X T k s i q.b q.c q.d q.a; c = q.c; d = q.d }

-- "Do the following 16 operations", round by round
unfoldable pub operations : Round → List Operation
operations One =
    ABCD 0 7 1 ∷ DABC 1 12 2 ∷ CDAB 2 17 3 ∷ BCDA 3 22 4 ∷
    ABCD 4 7 5 ∷ DABC 5 12 6 ∷ CDAB 6 17 7 ∷ BCDA 7 22 8 ∷
    ABCD 8 7 9 ∷ DABC 9 12 10 ∷ CDAB 10 17 11 ∷ BCDA 11 22 12 ∷
    ABCD 12 7 13 ∷ DABC 13 12 14 ∷ CDAB 14 17 15 ∷ BCDA 15 22 16 ∷ []
operations Two =
    ABCD 1 5 17 ∷ DABC 6 9 18 ∷ CDAB 11 14 19 ∷ BCDA 0 20 20 ∷
    ABCD 5 5 21 ∷ DABC 10 9 22 ∷ CDAB 15 14 23 ∷ BCDA 4 20 24 ∷
    ABCD 9 5 25 ∷ DABC 14 9 26 ∷ CDAB 3 14 27 ∷ BCDA 8 20 28 ∷
    ABCD 13 5 29 ∷ DABC 2 9 30 ∷ CDAB 7 14 31 ∷ BCDA 12 20 32 ∷ []
operations Three =
    ABCD 5 4 33 ∷ DABC 8 11 34 ∷ CDAB 11 16 35 ∷ BCDA 14 23 36 ∷
    ABCD 1 4 37 ∷ DABC 4 11 38 ∷ CDAB 7 16 39 ∷ BCDA 10 23 40 ∷
    ABCD 13 4 41 ∷ DABC 0 11 42 ∷ CDAB 3 16 43 ∷ BCDA 6 23 44 ∷
    ABCD 9 4 45 ∷ DABC 12 11 46 ∷ CDAB 15 16 47 ∷ BCDA 2 23 48 ∷ []
operations Four =
    ABCD 0 6 49 ∷ DABC 7 10 50 ∷ CDAB 14 15 51 ∷ BCDA 5 21 52 ∷
    ABCD 12 6 53 ∷ DABC 3 10 54 ∷ CDAB 10 15 55 ∷ BCDA 1 21 56 ∷
    ABCD 8 6 57 ∷ DABC 15 10 58 ∷ CDAB 6 15 59 ∷ BCDA 13 21 60 ∷
    ABCD 4 6 61 ∷ DABC 11 10 62 ∷ CDAB 2 15 63 ∷ BCDA 9 21 64 ∷ []

-- operations one after the other
unfoldable pub performed : (ℕ → ℕ → ℕ → ℕ) → (X T : List ℕ) → List Operation → State → State
performed F X T [] q = q
performed F X T (operation ∷ rest) q = performed F X T rest (operated F X T operation q)

abbrev pub round : Round → (X T : List ℕ) → State → State
round r X T q = performed (auxiliary r) X T (operations r) q

-- one block: the four rounds, then the registers are increased
unfoldable pub block : (X T : List ℕ) → State → State
block X T q = increased q (round Four X T (round Three X T (round Two X T (round One X T q))))

-- so many blocks of a message, 64 bytes each, from a place on
unfoldable pub blocks : (message T : List ℕ) → ℕ → ℕ → State → State
blocks message T zero at q = q
blocks message T (suc n) at q = blocks message T n (at + 64) (block (take 64 (drop at message)) T q)
