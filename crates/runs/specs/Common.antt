-- The first difference of two runs of a kind, and how it decides between them.
use Rattle.std.specs.Prelude.{ℕ, List, [], ◌∷◌, cond, ◌&&◌, eqb, Option, Some, None}
use Rattle.std.specs.Option.{option_cmp}
use Rattle.std.specs.declared.cmp.Ordering.{Ordering}
use Rattle.std.specs.Ordering.{nat_cmp, ordering_then}
use Rattle.std.specs.List.{prefix_len, common_prefix_len}
use Rattle.runs.specs.declared.Kind.{Kind}
use Rattle.runs.specs.Runs.{digit, of_kind}

-- how many bytes of kind k in front are the same in both
unfoldable pub common : Kind → List ℕ → List ℕ → ℕ
common k s t = common_prefix_len (λ a b. of_kind k a && eqb a b) s t

-- a text's first byte where it is of kind k
unfoldable pub byte_of : Kind → List ℕ → Option ℕ
byte_of k [] = None
byte_of k (b ∷ s) = cond (of_kind k b) (Some b) None

-- digits from their first difference on: the longer is newer, else the one with the higher first digit
unfoldable pub by_first : List ℕ → List ℕ → Ordering
by_first s t =
    ordering_then (nat_cmp (prefix_len (of_kind digit) s) (prefix_len (of_kind digit) t))
    (option_cmp nat_cmp (byte_of digit s) (byte_of digit t))
