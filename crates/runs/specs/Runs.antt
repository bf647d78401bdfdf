-- Document 02, request 6: runs of digits and of letters, and how two of them compare.
use Rattle.std.specs.Prelude.{ℕ, ◌+◌, ◌*◌, ◌-◌, List, [], ◌∷◌, Bool, cond, ◌&&◌, ◌||◌, leb, eqb, take, Result, Ok, Err}
use Rattle.std.specs.declared.cmp.Ordering.{Ordering}
use Rattle.std.specs.declared.cmp.Ordering.TheVariants.{Less, Equal, Greater}
use Rattle.std.specs.Ordering.{nat_cmp, ordering_then}
use Rattle.std.specs.Cmp.Lexicographic.{slice_cmp}
use Rattle.std.specs.List.{prefix_len}
use Rattle.runs.specs.declared.Kind.{Kind}
use Rattle.runs.specs.declared.Kind.TheVariants as kinds

-- the kinds of bytes
abbrev pub separator : Kind
separator = kinds.Separator

abbrev pub letter : Kind
letter = kinds.Letter

abbrev pub digit : Kind
digit = kinds.Digit

-- kinds by rank: a missing run is lowest, then letters, then digits
abbrev pub rank : Kind → ℕ
rank kinds.Separator = 0
rank kinds.Letter = 1
rank kinds.Digit = 2

abbrev pub same_kind : Kind → Kind → Bool
same_kind k l = eqb (rank k) (rank l)

-- ASCII 0 to 9
unfoldable pub is_digit : ℕ → Bool
is_digit b = leb 48 b && leb b 57

-- ASCII A to Z and a to z
unfoldable pub is_letter : ℕ → Bool
is_letter b = (leb 65 b && leb b 90) || (leb 97 b && leb b 122)

-- the kind of a byte; all but letters and digits only separates
unfoldable pub kind : ℕ → Kind
kind b = cond (is_digit b) digit (cond (is_letter b) letter separator)

unfoldable pub of_kind : Kind → ℕ → Bool
of_kind k b = same_kind (kind b) k

-- a run: the kind of its bytes, and its bytes
pub data Run : Type 0 where
  run : Kind → List ℕ → Run

-- the number that digits state, behind a number already read
unfoldable pub value_from : ℕ → List ℕ → ℕ
value_from n [] = n
value_from n (d ∷ ds) = value_from (n * 10 + (d - 48)) ds

abbrev pub value : List ℕ → ℕ
value ds = value_from 0 ds

-- letters before digits; digits by value, letters by bytes
unfoldable pub by_run : Run → Run → Ordering
by_run (run k bs) (run l cs) =
    ordering_then (nat_cmp (rank k) (rank l)) (cond (same_kind k digit) (nat_cmp (value bs) (value cs)) (slice_cmp nat_cmp bs cs))

-- an ASCII 0
unfoldable pub is_zero : ℕ → Bool
is_zero b = eqb b 48

-- the longest run of a kind in front of a text
unfoldable pub front_run : Kind → List ℕ → Run
front_run k s = run k (take (prefix_len (of_kind k) s) s)

-- how two runs compare; where they are the same, how many bytes each has
abbrev pub met_as : Ordering → ℕ → ℕ → Result (ℕ × ℕ) Ordering
met_as Less m n = Err Less
met_as Equal m n = Ok (m, n)
met_as Greater m n = Err Greater

-- the runs of a kind in front of two texts
unfoldable pub met : Kind → List ℕ → List ℕ → Result (ℕ × ℕ) Ordering
met k s t = met_as (by_run (front_run k s) (front_run k t)) (prefix_len (of_kind k) s) (prefix_len (of_kind k) t)
