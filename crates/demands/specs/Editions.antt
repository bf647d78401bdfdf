-- Request 7: demand 3 for any catalogue and set of kinds that extends another, over the reading of such editions. Proved in
-- proofs/ as editions_agree; editions 1 to 3 are instances (editions_lawful, editions_extend, third_edition, editions_run).
use Rattle.std.specs.Prelude.{ℕ, ◌≤◌, ◌≡◌, ◌⊎◌, ◌≢◌, List, [], ◌∷◌, Bool, cond, not, ◌&&◌, Some, Ok, Err}
use Rattle.catalogue.specs.declared.Line.{Line}
use Rattle.catalogue.specs.declared.Status.TheVariants.{Required}
use Rattle.catalogue.specs.Words.{int32}
use Rattle.catalogue.specs.Lists.{Listed, Rising, KeepsLines}
use Rattle.book.specs.Kinds.{is_weighed, Part, Oxide, Milligrams, Lot, Unknown, Holds, knows, kinds_of, last_edition}
use Rattle.book.specs.Book.{kind_at, places}
use Rattle.book.specs.KindTheorems.{KeepsKinds}
use Rattle.reading.specs.Editions.{Edition, edition_of, batch_tag}
use Rattle.reading.specs.Reading.{book_of, answer_at, read_answer}
use Rattle.reading.specs.Buffers.{Form, room_in, left_at, left_in}
use Rattle.format.specs.Verdicts.{Answer, refusal}

-- "the later keeps the earlier's unchanged": its lines, part by part, and its kinds, each with its body
pub record Extends (earlier later : Edition) : Type 0 where
  pub signature : KeepsLines earlier.signature later.signature
  pub header : KeepsLines earlier.header later.header
  pub kinds : KeepsKinds earlier.kinds later.kinds

-- a body begins with oxide 2 and milligrams 4
abbrev pub BeginsDose : List Part → Type 0
BeginsDose parts = (rest : List Part) × (parts ≡ Oxide ∷ Milligrams ∷ rest)

-- the line of the batch weight: int32, count 1, required
abbrev pub batch_line : Line
batch_line = record { tag = batch_tag; ty = int32; count = Some 1; status = Required }

-- an edition: any catalogue and set of kinds
pub record IsEdition (edition : Edition) : Type 0 where
  -- tags are strictly rising within each part
  pub signature_rises : Rising edition.signature
  pub header_rises : Rising edition.header
  -- it keeps edition 1's lines and kinds
  pub keeps_first : Extends (edition_of 1) edition
  -- every weighed body begins with oxide 2 and milligrams 4
  pub weighed : (kind : ℕ) (parts : List Part) → 128 ≤ kind → edition.kinds kind ≡ Holds parts → BeginsDose parts
  -- 20002, where it has a line, has the one given (check 23 runs exactly there: `has_batch`)
  pub batch : (line : Line) → Listed line edition.header → line.tag ≡ batch_tag → line ≡ batch_line

-- the records of a book whose weighed kind an edition lacks: the first of them, where there is one
pub data Lacking : Type 0 where
  First : ℕ → Lacking
  NoneLacks : Lacking

abbrev pub lacks : (ℕ → Bool) → ℕ → Bool
lacks known kind = is_weighed kind && not (known kind)

unfoldable pub first_lacking : (ℕ → Bool) → List ℕ → List ℕ → Lacking
first_lacking known b [] = NoneLacks
first_lacking known b (at ∷ rest) = cond (lacks known (kind_at b at)) (First at) (first_lacking known b rest)

abbrev pub lacking_in : Edition → List ℕ → Lacking
lacking_in edition b = first_lacking (knows edition.kinds) b (places b)

-- a line of a list whose tag an earlier list has no line for
pub record Added (earlier later : List Line) (line : Line) : Type 0 where
  pub listed : Listed line later
  pub without : (old : Line) → Listed old earlier → old.tag ≢ line.tag

-- a line that the later edition adds, to its signature's or to its header's
abbrev pub AddsLine : Edition → Edition → Line → Type 0
AddsLine earlier later line =
    Added earlier.signature later.signature line ⊎ Added earlier.header later.header line

-- a refusal at "that tag": for 14 and 15 any tag whose line the later edition adds, for 23 20002 where its line is added
abbrev pub ByAdded : Edition → Edition → Answer → Type 0
ByAdded earlier later answer =
    ((line : Line) × AddsLine earlier later line × ((answer ≡ Err (refusal 14 line.tag)) ⊎ (answer ≡ Err (refusal 15 line.tag))))
    ⊎ (Added earlier.header later.header batch_line × (answer ≡ Err (refusal 23 batch_tag)))

-- Demand 3 of two readings of one package, at an earlier and at a later edition, into buffers of their own that held the same
-- numbers beforehand: what the two answer, and what they leave in the buffers
pub record Agree (earlier later : Edition) (s : List ℕ) (first second : Answer) (after after' : List ℕ) : Type 0 where
  -- if the later accepts, the earlier refuses exactly when the book holds a weighed kind that it lacks, with number 20 and
  -- the place of the first such record
  pub accepted_lacks : (count place : ℕ) → second ≡ Ok count → lacking_in earlier (book_of s) ≡ First place
      → first ≡ Err (refusal 20 place)
  -- if the book holds none, the earlier accepts with the same dose count and doses, and the two buffers end equal
  pub accepted_both : (count : ℕ) → second ≡ Ok count → lacking_in earlier (book_of s) ≡ NoneLacks
      → (first ≡ Ok count) × (after ≡ after')
  -- if the earlier accepts and the later refuses, the refusal is 14, 15 or 23 at that tag
  pub later_refuses : (count number place : ℕ) → first ≡ Ok count → second ≡ Err (refusal number place)
      → ByAdded earlier later second
  -- where no line is added that can't occur
  pub none_added : ((line : Line) → AddsLine earlier later line → ⊥) → (count : ℕ) → first ≡ Ok count → second ≡ Ok count
  -- if both refuse, number and place agree, unless the earlier gives 20, or the later gives 14, 15 or 23 at that tag
  pub both_refuse : (number place number' place' : ℕ) → first ≡ Err (refusal number place) → second ≡ Err (refusal number' place')
      → (first ≡ second) ⊎ (number ≡ 20) ⊎ ByAdded earlier later second

-- the theorem: of any package and any buffer, in either form
abbrev pub EditionsAgree : Type 0
EditionsAgree =
    (earlier later : Edition) → IsEdition earlier → IsEdition later → Extends earlier later
    → (form : Form) (s before : List ℕ)
    → Agree earlier later s (answer_at earlier s (room_in form before)) (answer_at later s (room_in form before))
    (left_at form earlier s before) (left_at form later s before)

-- the editions by their numbers are such editions, and each extends those before
abbrev pub EditionsLawful : Type 0
EditionsLawful = (edition : ℕ) → 1 ≤ edition → IsEdition (edition_of edition)

abbrev pub EditionsExtend : Type 0
EditionsExtend = (earlier later : ℕ) → earlier ≤ later → Extends (edition_of earlier) (edition_of later)

-- "Edition 3 keeps all of edition 2 and adds no tag", and kind AA alone
pub record ThirdEdition : Type 0 where
  pub signature : (edition_of 3).signature ≡ (edition_of 2).signature
  pub header : (edition_of 3).header ≡ (edition_of 2).header
  pub kinds : (kind : ℕ) → kind ≢ 0xAA → kinds_of 3 kind ≡ kinds_of 2 kind
  pub unknown_before : kinds_of 2 0xAA ≡ Unknown
  pub body : kinds_of 3 0xAA ≡ Holds (Oxide ∷ Milligrams ∷ Lot ∷ [])

-- the reading that runs at a number is that of the edition
pub record RunsAt (form : Form) (edition : ℕ) (s before : List ℕ) : Type 0 where
  pub answers : read_answer edition s (room_in form before) ≡ answer_at (edition_of edition) s (room_in form before)
  pub leaves : left_in form edition s before ≡ left_at form (edition_of edition) s before

abbrev pub EditionsRun : Type 0
EditionsRun =
    (form : Form) (edition : ℕ) → 1 ≤ edition → edition ≤ last_edition → (s before : List ℕ) → RunsAt form edition s before

-- of the editions by their numbers, a line that a later one adds is 20002's, and the earlier is edition 1
abbrev pub AddsBatch : Type 0
AddsBatch =
    (earlier later : ℕ) → 1 ≤ earlier → (line : Line) → AddsLine (edition_of earlier) (edition_of later) line
    → (earlier ≡ 1) × (line.tag ≡ batch_tag)
