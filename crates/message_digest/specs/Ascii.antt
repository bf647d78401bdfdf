-- Texts as bytes, a character's ASCII code for each.
use Rattle.std.specs.Prelude.{ℕ, List, [], ◌∷◌}
use Prim.Native.Char.{code}
use Prim.Native.String.{String, [] as none, ◌∷◌ as ◌then◌}

unfoldable pub ascii : String → List ℕ
ascii none = []
ascii (c then rest) = code c ∷ ascii rest
