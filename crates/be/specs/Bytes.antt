-- Whether two lists of bytes are the same, byte for byte.
use Rattle.std.specs.Prelude.{ℕ, List, Bool}
use Rattle.std.specs.Str.{bytes_eq}

unfoldable pub same_bytes : List ℕ → List ℕ → Bool
same_bytes s t = bytes_eq s t
