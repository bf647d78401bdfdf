-- Document 02, request 6, in its own words: what the runs of a text are, when one text is older than another or the same as it,
-- and that texts are in a total order up to Equal. Each is proved in proofs/ under its name in small letters: RunsExactly as
-- runs_exactly.
use Rattle.std.specs.Prelude.{ℕ, ◌+◌, ◌*◌, ◌-◌, ◌≤◌, ◌<◌, ◌≡◌, ◌↔◌, ◌⊎◌, List, [], ◌∷◌, ◌++◌, length, get_or}
use Rattle.std.specs.declared.cmp.Ordering.{Ordering}
use Rattle.std.specs.declared.cmp.Ordering.TheVariants.{Less, Equal, Greater}
use Rattle.runs.specs.Runs.{letter, digit, Run, run, value}
use Rattle.version.specs.Version.{runs, by_text}

-- ASCII 0 to 9; A to Z and a to z; all else only separates
abbrev pub Digit : ℕ → Type 0
Digit b = (48 ≤ b) × (b ≤ 57)

abbrev pub Letter : ℕ → Type 0
Letter b = ((65 ≤ b) × (b ≤ 90)) ⊎ ((97 ≤ b) × (b ≤ 122))

abbrev pub Separator : ℕ → Type 0
Separator b = (Digit b → ⊥) × (Letter b → ⊥)

-- every byte of a list is such a one
abbrev pub Every : (ℕ → Type 0) → List ℕ → Type 0
Every P bs = (i : ℕ) → i < length bs → P (get_or bs i 0)

-- a longest run: some bytes of a sort, and behind them the text ends or another sort follows
pub record Longest (P : ℕ → Type 0) (bs rest : List ℕ) : Type 0 where
  pub some : 1 ≤ length bs
  pub all : Every P bs
  pub ends : 1 ≤ length rest → P (get_or rest 0 0) → ⊥

-- a text as its longest runs of digits or of letters, in order, with what only separates before, between and behind them
pub data Parted : List ℕ → List Run → Type 0 where
  none : (sep : List ℕ) → Every Separator sep → Parted sep []
  digits : (sep ds s : List ℕ) {rs : List Run} → Every Separator sep → Longest Digit ds s → Parted s rs
      → Parted (sep ++ (ds ++ s)) (run digit ds ∷ rs)
  letters : (sep bs s : List ℕ) {rs : List Run} → Every Separator sep → Longest Letter bs s → Parted s rs
      → Parted (sep ++ (bs ++ s)) (run letter bs ∷ rs)

-- A text is parted in one way, into its runs.
abbrev pub RunsExactly : Type 0
RunsExactly = (s : List ℕ) (rs : List Run) → Parted s rs ↔ (rs ≡ runs s)

-- The value of digits: none state 0, and one more digit makes it ten times as much and that digit.
abbrev pub ValueByPlaces : Type 0
ValueByPlaces = (value [] ≡ 0) × ((ds : List ℕ) (d : ℕ) → value (ds ++ (d ∷ [])) ≡ value ds * 10 + (d - 48))

-- a list is before another: it ends where the other goes on, or has the lower element where they first differ
pub data Before {A : Type 0} (Alike Lower : A → A → Type 0) : List A → List A → Type 0 where
  missing : {y : A} {ys : List A} → Before Alike Lower [] (y ∷ ys)
  here : {x y : A} {xs ys : List A} → Lower x y → Before Alike Lower (x ∷ xs) (y ∷ ys)
  later : {x y : A} {xs ys : List A} → Alike x y → Before Alike Lower xs ys → Before Alike Lower (x ∷ xs) (y ∷ ys)

-- lists of one length whose elements are alike, pair by pair
pub data Paired {A : Type 0} (Alike : A → A → Type 0) : List A → List A → Type 0 where
  ends : Paired Alike [] []
  pair : {x y : A} {xs ys : List A} → Alike x y → Paired Alike xs ys → Paired Alike (x ∷ xs) (y ∷ ys)

-- runs that are the same: digits of one value, letters of the same bytes
pub data AlikeRuns : Run → Run → Type 0 where
  values : (ds es : List ℕ) → value ds ≡ value es → AlikeRuns (run digit ds) (run digit es)
  bytes : {bs : List ℕ} → AlikeRuns (run letter bs) (run letter bs)

-- a run that is lower: letters than digits, digits of the lower value, letters by bytes, a prefix first
pub data LowerRun : Run → Run → Type 0 where
  kinds : {bs ds : List ℕ} → LowerRun (run letter bs) (run digit ds)
  values : (ds es : List ℕ) → value ds < value es → LowerRun (run digit ds) (run digit es)
  bytes : {bs cs : List ℕ} → Before (λ (a b : ℕ). a ≡ b) (λ (a b : ℕ). a < b) bs cs → LowerRun (run letter bs) (run letter cs)

-- Texts by their runs, run by run: a missing run is lowest.
abbrev pub OlderExactly : Type 0
OlderExactly =
    (s t : List ℕ) (rs qs : List Run) → Parted s rs → Parted t qs
    → (by_text s t ≡ Less) ↔ Before AlikeRuns LowerRun rs qs

abbrev pub SameExactly : Type 0
SameExactly =
    (s t : List ℕ) (rs qs : List Run) → Parted s rs → Parted t qs → (by_text s t ≡ Equal) ↔ Paired AlikeRuns rs qs

abbrev pub NewerExactly : Type 0
NewerExactly =
    (s t : List ℕ) (rs qs : List Run) → Parted s rs → Parted t qs
    → (by_text s t ≡ Greater) ↔ Before AlikeRuns LowerRun qs rs

-- a total order up to Equal
pub record TotalOrder {A : Type 0} (by : A → A → Ordering) : Type 0 where
  -- Equal is an equivalence
  pub reflexive : (x : A) → by x x ≡ Equal
  pub symmetric : (x y : A) → by x y ≡ Equal → by y x ≡ Equal
  pub transitive : (x y z : A) → by x y ≡ Equal → by y z ≡ Equal → by x z ≡ Equal
  -- Less and Greater are each other's converse, and Less is transitive
  pub converse : (x y : A) → (by x y ≡ Less) ↔ (by y x ≡ Greater)
  pub chain : (x y z : A) → by x y ≡ Less → by y z ≡ Less → by x z ≡ Less
  -- Equal on either side changes no answer
  pub left : (x y z : A) → by x y ≡ Equal → by x z ≡ by y z
  pub right : (x y z : A) → by y z ≡ Equal → by x y ≡ by x z
  -- one of the three holds, and no two
  pub one : (x y : A) → (by x y ≡ Less) ⊎ ((by x y ≡ Equal) ⊎ (by x y ≡ Greater))
  pub not_equal : (x y : A) → by x y ≡ Less → by x y ≡ Equal → ⊥
  pub not_greater : (x y : A) → by x y ≡ Less → by x y ≡ Greater → ⊥
  pub not_both : (x y : A) → by x y ≡ Equal → by x y ≡ Greater → ⊥

abbrev pub TextsInOrder : Type 0
TextsInOrder = TotalOrder by_text
