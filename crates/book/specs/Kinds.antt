-- Document 01, "Book": the table of kinds, with request 7's.
use Rattle.std.specs.Prelude.{ℕ, ◌%◌, List, [], ◌∷◌, Bool, true, false, cond, eqb, leb}

-- kinds 128 and above are weighed, those below are remarks
abbrev pub is_weighed : ℕ → Bool
is_weighed kind = leb 128 kind

-- the body of a kind is kind mod 16 bytes
abbrev pub body_size : ℕ → ℕ
body_size kind = kind % 16

-- a remark without a body
abbrev pub is_bare : ℕ → Bool
is_bare kind = cond (is_weighed kind) false (eqb (body_size kind) 0)

-- the parts of a body: those of a dose, and others, by their size, which may be anything
pub data Part : Type 0 where
  Oxide : Part
  Milligrams : Part
  Lot : Part
  Other : ℕ → Part

abbrev pub part_size : Part → ℕ
part_size Oxide = 2
part_size Milligrams = 4
part_size Lot = 4
part_size (Other size) = size

-- what the body of a kind holds, in an edition that knows the kind
pub data Body : Type 0 where
  Unknown : Body
  Holds : List Part → Body

-- a set of kinds: the body of each that is known
abbrev pub Kinds : Type 0
Kinds = ℕ → Body

abbrev pub is_held : Body → Bool
is_held Unknown = false
is_held (Holds parts) = true

abbrev pub knows : Kinds → ℕ → Bool
knows kinds kind = is_held (kinds kind)

-- a row of the table: a kind, what its body holds, and the edition that lists it; later editions keep it
pub record KindRow : Type 0 where
  pub kind : ℕ
  pub body : List Part
  pub edition : ℕ

abbrev pub row : ℕ → List Part → ℕ → KindRow
row kind body edition = record { kind = kind; body = body; edition = edition }

unfoldable pub kind_table : List KindRow
kind_table =
    -- page, 2
    row 0x02 (Other 2 ∷ []) 1 ∷
    -- oxide 2, milligrams 4
    row 0x86 (Oxide ∷ Milligrams ∷ []) 1 ∷
    -- date, 4
    row 0x14 (Other 4 ∷ []) 2 ∷
    -- oxide 2, milligrams 4, tolerance 2
    row 0x98 (Oxide ∷ Milligrams ∷ Other 2 ∷ []) 2 ∷
    -- oxide 2, milligrams 4, lot 4
    row 0xAA (Oxide ∷ Milligrams ∷ Lot ∷ []) 3 ∷
    []

-- the kinds of a table that an edition knows
unfoldable pub kinds_in : List KindRow → ℕ → Kinds
kinds_in [] edition kind = Unknown
kinds_in (r ∷ rest) edition kind =
    cond (eqb kind r.kind) (cond (leb r.edition edition) (Holds r.body) Unknown) (kinds_in rest edition kind)

abbrev pub kinds_of : ℕ → Kinds
kinds_of edition = kinds_in kind_table edition

abbrev pub is_known : ℕ → ℕ → Bool
is_known edition kind = knows (kinds_of edition) kind

-- the last edition, which keeps the kinds of all
abbrev pub last_edition : ℕ
last_edition = 3
