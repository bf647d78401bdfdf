-- The bytes that a structure of an opened package holds under a tag and a type: what `find_in` shows.
use Rattle.std.specs.Prelude.{ℕ, List}
use Rattle.format.specs.declared.section.Section.{Section}
use Rattle.index.specs.Lookup.{find_in, found_bytes}

abbrev pub bytes_in : List ℕ → Section → ℕ → ℕ → List ℕ
bytes_in s section tag ty = found_bytes s (find_in s section tag ty)
