-- What is proved of kinds and doses: BodiesSized, AnyKinds, KeptKinds.
use Rattle.std.specs.Prelude.{ℕ, ◌+◌, ◌%◌, ◌≡◌, List, [], ◌∷◌, length}
use Rattle.book.specs.Kinds.{Part, part_size, Holds, Kinds, knows, kinds_of}
use Rattle.book.specs.Book.{book_check}
use Rattle.book.specs.Doses.{doses_in, sum_of}
use Rattle.format.specs.Verdicts.{pass}

unfoldable pub parts_size : List Part → ℕ
parts_size [] = 0
parts_size (part ∷ rest) = part_size part + parts_size rest

-- the parts of each body come to kind mod 16 bytes
abbrev pub SizedKinds : Kinds → Type 0
SizedKinds kinds = (kind : ℕ) (parts : List Part) → kinds kind ≡ Holds parts → parts_size parts ≡ kind % 16

abbrev pub BodiesSized : Type 0
BodiesSized = (edition : ℕ) → SizedKinds (kinds_of edition)

-- the number of a book's doses and their sum are the same by any kinds
abbrev pub AnyKinds : Type 0
AnyKinds =
    (kinds kinds' : Kinds) (b : List ℕ)
    → (length (doses_in kinds b) ≡ length (doses_in kinds' b)) × (sum_of (doses_in kinds b) ≡ sum_of (doses_in kinds' b))

-- a later set of kinds that keeps an earlier one's, each with its body
abbrev pub KeepsKinds : Kinds → Kinds → Type 0
KeepsKinds earlier later = (kind : ℕ) (parts : List Part) → earlier kind ≡ Holds parts → later kind ≡ Holds parts

-- and the doses themselves, of a book that passes 19 to 22 by kinds that are kept
abbrev pub KeptKinds : Type 0
KeptKinds =
    (earlier later : Kinds) → KeepsKinds earlier later → (b : List ℕ) → book_check (knows earlier) b ≡ pass
    → doses_in earlier b ≡ doses_in later b
