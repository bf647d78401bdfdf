-- What is proved of a book's bytes and the rows of records that they are: OneRow, PassIsRow, RowDoses,
-- RowSum.
use Rattle.std.specs.Prelude.{ℕ, ◌%◌, ◌≤◌, ◌≡◌, ◌↔◌, List, Bool, true, length}
use Rattle.book.specs.Book.{places, records_check}
use Rattle.book.specs.Doses.{doses, sum_of}
use Rattle.book.specs.Rows.{BookRecord, Each, IsRow, stated_doses, stated_sum, LawfulRow}
use Rattle.format.specs.Verdicts.{pass}

-- some bytes are a row in one way only
abbrev pub OneRow : Type 0
OneRow = (b : List ℕ) (row row' : List BookRecord) → IsRow b row → IsRow b row' → row ≡ row'

-- a weighed body holds an oxide and milligrams
abbrev pub HoldsDose : BookRecord → Type 0
HoldsDose r = 128 ≤ r.kind → 6 ≤ length r.body

-- kinds of which every weighed one that is known has such a body
abbrev pub HoldDoses : (ℕ → Bool) → Type 0
HoldDoses known = (kind : ℕ) → known kind ≡ true → 128 ≤ kind → 6 ≤ kind % 16

-- checks 20 to 22 pass exactly on the bytes of a lawful row
abbrev pub PassIsRow : Type 0
PassIsRow =
    (known : ℕ → Bool) → HoldDoses known → (b : List ℕ)
    → (records_check known b (places b) ≡ pass) ↔ ((row : List BookRecord) × IsRow b row × LawfulRow known row)

-- the doses of a book are those that the weighed records of its row state, in order
abbrev pub RowDoses : Type 0
RowDoses = (b : List ℕ) (row : List BookRecord) → IsRow b row → Each HoldsDose row → doses b ≡ stated_doses row

abbrev pub RowSum : Type 0
RowSum = (b : List ℕ) (row : List BookRecord) → IsRow b row → Each HoldsDose row → sum_of (doses b) ≡ stated_sum row
