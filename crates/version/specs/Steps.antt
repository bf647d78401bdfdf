-- What the steps of a comparison answer.
use Rattle.std.specs.Prelude.{ℕ, ◌≤◌, ◌≡◌, List, [], length}
use Rattle.runs.specs.Runs.{separator}
use Rattle.version.specs.Version.{kind_of, runs}

-- what is left of a text from its first run on, or from where there is none: its runs are those of the text
pub record Skips (s rest : List ℕ) : Type 0 where
  pub fits : length rest ≤ length s
  pub same : runs rest ≡ runs s
  pub starts : kind_of rest ≡ separator → runs rest ≡ []
