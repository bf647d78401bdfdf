-- Document 02, request 6: version texts, compared run by run.
use Rattle.std.specs.Prelude.{ℕ, List, [], ◌∷◌, cond}
use Rattle.std.specs.declared.cmp.Ordering.{Ordering}
use Rattle.std.specs.Cmp.Lexicographic.{slice_cmp}
use Rattle.runs.specs.declared.Kind.{Kind}
use Rattle.runs.specs.Runs.{separator, same_kind, kind, Run, run, by_run}

-- the kind of a text's first byte; a separator's where there is none
unfoldable pub kind_of : List ℕ → Kind
kind_of [] = separator
kind_of (b ∷ s) = kind b

-- the first run with one byte more in front
unfoldable pub longer : ℕ → List Run → List Run
longer b [] = []
longer b (run k bs ∷ rs) = run k (b ∷ bs) ∷ rs

-- the longest runs of digits or of letters, in order
unfoldable pub runs : List ℕ → List Run
runs [] = []
runs (b ∷ s) =
    cond (same_kind (kind b) separator) (runs s)
    (cond (same_kind (kind_of s) (kind b)) (longer b (runs s)) (run (kind b) (b ∷ []) ∷ runs s))

-- run by run; a missing run is lowest
unfoldable pub by_text : List ℕ → List ℕ → Ordering
by_text s t = slice_cmp by_run (runs s) (runs t)
