-- Document 01, "Book", as a row of records: no places and no order of checks.
use Rattle.std.specs.Prelude.{ℕ, ◌+◌, ◌*◌, ◌%◌, ◌≤◌, ◌≡◌, List, [], ◌∷◌, ◌++◌, Bool, true, cond, length, take, drop, eqb, leb}
use Rattle.book.specs.declared.dose.Dose.{Dose}
use Rattle.book.specs.Doses.{sum_of}

-- one byte of kind, then a body
pub record BookRecord : Type 0 where
  pub kind : ℕ
  pub body : List ℕ

-- repeated to the end: the bytes of a row of records
unfoldable pub row_bytes : List BookRecord → List ℕ
row_bytes [] = []
row_bytes (r ∷ rest) = r.kind ∷ (r.body ++ row_bytes rest)

-- a rule for each record of a row
abbrev pub Each : (BookRecord → Type 0) → List BookRecord → Type 0
Each Rule [] = Unit
Each Rule (r ∷ rest) = Rule r × Each Rule rest

-- a body of (kind mod 16) bytes
abbrev pub Sized : BookRecord → Type 0
Sized r = length r.body ≡ r.kind % 16

-- some bytes are a row of records
pub record IsRow (b : List ℕ) (row : List BookRecord) : Type 0 where
  pub bytes : row_bytes row ≡ b
  pub bodies : Each Sized row

-- the number of some bytes, big-endian
unfoldable pub value_from : ℕ → List ℕ → ℕ
value_from high [] = high
value_from high (byte ∷ rest) = value_from (high * 256 + byte) rest

abbrev pub value : List ℕ → ℕ
value bytes = value_from 0 bytes

-- oxide 2, milligrams 4, and in kind AA lot 4: what a weighed record states; the lot of any other kind is 0
abbrev pub stated : BookRecord → Dose
stated r =
    record {
      oxide = record { 0 = value (take 2 r.body) };
      milligrams = record { 0 = value (take 4 (drop 2 r.body)) };
      lot = record { 0 = cond (eqb r.kind 0xAA) (value (take 4 (drop 6 r.body))) 0 };
    }

-- kinds 128 and above are weighed; doses are the (oxide, milligrams, lot) of weighed records, in order
unfoldable pub stated_doses : List BookRecord → List Dose
stated_doses [] = []
stated_doses (r ∷ rest) = cond (leb 128 r.kind) (stated r ∷ stated_doses rest) (stated_doses rest)

abbrev pub stated_sum : List BookRecord → ℕ
stated_sum row = sum_of (stated_doses row)

-- a weighed record is lawful where its kind is known, its oxide 1 to 999 and its milligrams 1 to 5,000,000
pub record LawfulWeighed (known : ℕ → Bool) (r : BookRecord) : Type 0 where
  pub kind : known r.kind ≡ true
  pub oxide : (1 ≤ (stated r).oxide.0) × ((stated r).oxide.0 ≤ 999)
  pub milligrams : (1 ≤ (stated r).milligrams.0) × ((stated r).milligrams.0 ≤ 5000000)

abbrev pub LawfulRow : (ℕ → Bool) → List BookRecord → Type 0
LawfulRow known row = Each (λ (r : BookRecord). 128 ≤ r.kind → LawfulWeighed known r) row
