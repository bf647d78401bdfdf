-- The letter's demands, as statements over the reading. Each is proved in proofs/ under its name in small letters.
use Rattle.std.specs.Prelude.{ℕ, ◌≤◌, ◌<◌, ◌≡◌, ◌⊎◌, ◌↔◌, ◌≢◌, List, [], ◌++◌, length, drop, Ok, Err}
use Rattle.entries.specs.Entries.{record_at}
use Rattle.package.specs.Package.{sound_check, structure_of}
use Rattle.lookups.specs.Lookup.{find_bytes, find_answer}
use Rattle.lookups.specs.Theorems.{RecordFor, Shows}
use Rattle.book.specs.Kinds.{kinds_of, last_edition}
use Rattle.book.specs.KindTheorems.{SizedKinds}
use Rattle.book.specs.Doses.{doses}
use Rattle.buffer.specs.Buffer.{numbers_of}
use Rattle.reading.specs.Editions.{Edition, edition_of, batch_tag}
use Rattle.reading.specs.Reading.{book_of, needed, checks_at, read_answer}
use Rattle.reading.specs.Buffers.{Form, Numbers, Bytes, room_in, cells, left_in, ReadInto}
use Rattle.demands.specs.Lawful.{SoundPackage, LawfulPackage}
use Rattle.demands.specs.Editions.{IsEdition, First, NoneLacks, lacking_in}
use Rattle.format.specs.Verdicts.{Answer, pass, refusal}

-- Demand 1: "A refused reading changes no number of the dose buffer; an accepted one writes its doses at the front and nothing
-- behind them." (`read_answer` is the number and place of the first check that fails, in document 01's order.)
abbrev pub RefusedKeeps : Type 0
RefusedKeeps =
    (form : Form) (edition : ℕ) (s before : List ℕ) (number place : ℕ)
    → read_answer edition s (room_in form before) ≡ Err (refusal number place) → left_in form edition s before ≡ before

-- the doses of a book as they stand in a buffer
abbrev pub dose_cells : Form → List ℕ → List ℕ
dose_cells form book = cells form (numbers_of (doses book))

abbrev pub AcceptedWrites : Type 0
AcceptedWrites =
    (form : Form) (edition : ℕ) (s before : List ℕ) (count : ℕ) → read_answer edition s (room_in form before) ≡ Ok count
    → (count ≡ length (doses (book_of s)))
    × (left_in form edition s before ≡ dose_cells form (book_of s) ++ drop (length (dose_cells form (book_of s))) before)

-- Demand 2: "With a known edition and room for the doses, a package is accepted exactly when it obeys the LSB package format and
-- our book rules as document 01 fixes them." (The doses are those that the book's records state, in order: `doses`.)
abbrev pub Demand2 : Type 0
Demand2 =
    (form : Form) (edition : ℕ) (s before : List ℕ) → 1 ≤ edition → edition ≤ last_edition
    → (read_answer edition s (room_in form before) ≡ Ok (length (doses (book_of s))))
    ↔ (LawfulPackage (edition_of edition) s × (needed (kinds_of edition) (book_of s) ≤ room_in form before))

-- and of any edition (request 7) whose bodies come to kind mod 16 bytes
abbrev pub AnyEdition : Type 0
AnyEdition =
    (edition : Edition) → IsEdition edition → SizedKinds edition.kinds → (s : List ℕ) (room : ℕ)
    → (checks_at edition s room ≡ pass) ↔ (LawfulPackage edition s × (needed edition.kinds (book_of s) ≤ room))

-- "Where size, lead and structures are sound": exactly where checks 2 to 13 and 28 pass,
abbrev pub SoundExactly : Type 0
SoundExactly = (s : List ℕ) → (sound_check s ≡ pass) ↔ SoundPackage s

-- "a look-up finds data exactly when a record has that tag and that type,"
abbrev pub LookupFinds : Type 0
LookupFinds =
    (s : List ℕ) (which tag ty : ℕ)
    → (find_bytes s which tag ty ≢ []) ↔ (SoundPackage s × (k : ℕ) × RecordFor s (structure_of s which) tag ty k)

-- "and shows the very bytes of the package that hold it."
abbrev pub LookupHolds : Type 0
LookupHolds =
    (s : List ℕ) (which tag ty k : ℕ) → SoundPackage s → RecordFor s (structure_of s which) tag ty k
    → Shows s (structure_of s which) (record_at s (structure_of s which) k) (find_bytes s which tag ty)
    (find_answer s which tag ty)

-- a refusal that the batch weight explains: "14, 15 or 23, and its place is the batch-weight tag 20002"
abbrev pub ByBatch : Answer → Type 0
ByBatch answer = (answer ≡ Err (refusal 14 batch_tag)) ⊎ (answer ≡ Err (refusal 15 batch_tag)) ⊎ (answer ≡ Err (refusal 23 batch_tag))

-- Demand 3 of two readings of one package, at an earlier edition and at a later, by their numbers, into buffers of their own
-- that held the same numbers beforehand: what the two answer, and what they leave in the buffers
pub record PairAgrees (earlier later : ℕ) (s : List ℕ) (first second : Answer) (after after' : List ℕ) : Type 0 where
  -- if the later accepts, the earlier refuses exactly when the book holds a weighed kind that it lacks, with number 20 and
  -- the place of the first such record
  pub accepted_lacks : (count place : ℕ) → second ≡ Ok count → lacking_in (edition_of earlier) (book_of s) ≡ First place
      → first ≡ Err (refusal 20 place)
  -- if the book holds none, the earlier accepts with the same dose count and doses, and the two buffers end equal
  pub accepted_both : (count : ℕ) → second ≡ Ok count → lacking_in (edition_of earlier) (book_of s) ≡ NoneLacks
      → (first ≡ Ok count) × (after ≡ after')
  -- if the earlier accepts and the later refuses, the earlier is edition 1, the refusal is 14, 15 or 23, and its place is 20002
  pub later_refuses : (count number place : ℕ) → first ≡ Ok count → second ≡ Err (refusal number place)
      → (earlier ≡ 1) × ByBatch second
  -- if both refuse, number and place agree, unless the earlier gives 20, or the earlier is edition 1 and the later gives 14,
  -- 15 or 23 with that tag
  pub both_refuse : (number place number' place' : ℕ) → first ≡ Err (refusal number place) → second ≡ Err (refusal number' place')
      → (first ≡ second) ⊎ (number ≡ 20) ⊎ ((earlier ≡ 1) × ByBatch second)

-- for every earlier and later edition
abbrev pub Demand3 : Type 0
Demand3 =
    (form : Form) (earlier later : ℕ) → 1 ≤ earlier → earlier < later → later ≤ last_edition → (s before : List ℕ)
    → PairAgrees earlier later s (read_answer earlier s (room_in form before)) (read_answer later s (room_in form before))
    (left_in form earlier s before) (left_in form later s before)

-- Demand 3 of a call that reads at two editions, by any two numbers: each reading is that at its edition, and where the first
-- is the earlier of two known editions, and the buffers held the same, the two agree
pub record ReadBothInto (form : Form) (earlier later : ℕ) (s before before' : List ℕ) (first second : Answer)
    (after after' : List ℕ) : Type 0
  where
    pub at_first : ReadInto form earlier s before first after
    pub at_second : ReadInto form later s before' second after'
    pub agree : 1 ≤ earlier → earlier < later → later ≤ last_edition → before ≡ before'
        → PairAgrees earlier later s first second after after'

abbrev pub ReadBoth : ℕ → ℕ → List ℕ → List ℕ → List ℕ → Answer → Answer → List ℕ → List ℕ → Type 0
ReadBoth = ReadBothInto Numbers

abbrev pub ReadBothBytes : ℕ → ℕ → List ℕ → List ℕ → List ℕ → Answer → Answer → List ℕ → List ℕ → Type 0
ReadBothBytes = ReadBothInto Bytes
