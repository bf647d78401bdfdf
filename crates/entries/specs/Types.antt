-- Document 01, "Header structure": the table of types.
use Rattle.std.specs.Prelude.{ℕ, Bool, true, false, cond, ◌||◌, eqb, Option, Some, None}
use Rattle.entries.specs.declared.types.ElementSize.{ElementSize}
use Rattle.entries.specs.declared.types.ElementSize.TheVariants.{Bytes, ToZero}

-- 1 char, 2 int8, 7 bin: size 1; 3 int16: size 2; 4 int32: size 4; 6 string, 8 string array, 9 translated string: to a
-- zero byte; types 0, 5 and 10 upward are refused
unfoldable pub element_size : ℕ → Option ElementSize
element_size ty =
    cond (eqb ty 1 || eqb ty 2 || eqb ty 7) (Some (Bytes 1))
    (cond (eqb ty 3) (Some (Bytes 2))
    (cond (eqb ty 4) (Some (Bytes 4))
    (cond (eqb ty 6 || eqb ty 8 || eqb ty 9) (Some ToZero)
    None)))

abbrev pub is_lawful : Option ElementSize → Bool
is_lawful (Some (Bytes n)) = true
is_lawful (Some ToZero) = true
is_lawful None = false
