-- Document 01, "Numbers the station shows": element look-ups.
use Rattle.std.specs.Prelude.{ℕ, ◌+◌, ◌-◌, ◌*◌, List, cond, leb, ltb, Option, Some, None, Result, Ok, Err}
use Rattle.strings.specs.Strings.{strings_from}
use Rattle.format.specs.Sizes.{package_limit}
use Rattle.entries.specs.declared.types.ElementSize.{ElementSize}
use Rattle.entries.specs.declared.types.ElementSize.TheVariants.{Bytes, ToZero}
use Rattle.entries.specs.Types.{element_size}
use Rattle.index.specs.declared.Entry.{Entry}
use Rattle.index.specs.Lookup.{extent_to}
use Rattle.lookups.specs.Lookup.{sought, sought_bytes, sought_answer}
use Rattle.format.specs.Verdicts.{Answer, refusal}
use Rattle.format.specs.declared.verdict.Refusal.{Refusal}

-- the string that starts where a run of strings ended
abbrev pub string_part : List ℕ → Entry → Option ℕ → Entry
string_part s entry (Some from) =
    record {
      ty = entry.ty;
      count = 1;
      at = record { 0 = from };
      extent = extent_to from (strings_from s (entry.at.0 + entry.extent - from) from 1);
    }
string_part s entry None = record { ty = entry.ty; count = 1; at = entry.at; extent = 0 }

-- element k of an entry, as an entry of count 1: a fixed size by its size, a single string with its zero byte
abbrev pub element_for : Option ElementSize → List ℕ → Entry → ℕ → Entry
element_for (Some (Bytes n)) s entry k =
    record { ty = entry.ty; count = 1; at = record { 0 = entry.at.0 + n * k }; extent = n }
element_for (Some ToZero) s entry k = string_part s entry (strings_from s entry.extent entry.at.0 k)
element_for None s entry k = record { ty = entry.ty; count = 1; at = entry.at; extent = 0 }

unfoldable pub element_of : List ℕ → Entry → ℕ → Entry
element_of s entry k = element_for (element_size entry.ty) s entry k

-- the same of any entry: one that lies in no package has an empty element
abbrev pub element_in : List ℕ → Entry → ℕ → Entry
element_in s entry k =
    cond (leb (entry.at.0 + entry.extent) package_limit) (element_of s entry k)
    (record { ty = entry.ty; count = 1; at = entry.at; extent = 0 })

-- 26 | element number at or above count | 0
abbrev pub element_as : List ℕ → ℕ → Result Entry Refusal → Result Entry Refusal
element_as s k (Ok entry) = cond (ltb k entry.count) (Ok (element_of s entry k)) (Err (refusal 26 0))
element_as s k (Err e) = Err e

unfoldable pub sought_element : List ℕ → ℕ → ℕ → ℕ → ℕ → Result Entry Refusal
sought_element s which tag ty k = element_as s k (sought s which tag ty)

abbrev pub find_element_bytes : List ℕ → ℕ → ℕ → ℕ → ℕ → List ℕ
find_element_bytes s which tag ty k = sought_bytes s (sought_element s which tag ty k)

abbrev pub find_element_answer : List ℕ → ℕ → ℕ → ℕ → ℕ → Answer
find_element_answer s which tag ty k = sought_answer (sought_element s which tag ty k)
