-- Document 01, "Catalogue", texts (check 18), in its order, over what the header shows for each tag.
use Rattle.std.specs.Prelude.{ℕ, zero, suc, ◌+◌, List, [], ◌∷◌, Bool, true, cond, ◌&&◌, get_or, eqb, ltb, Option, Some, None}
use Rattle.be.specs.Numbers.{be32_at}
use Rattle.be.specs.Bytes.{same_bytes}
use Rattle.format.specs.declared.section.Section.{Section}
use Rattle.format.specs.Verdicts.{check, run_from, Verdict, pass}
use Rattle.index.specs.Lookup.{found_bytes, entry_for}
use Rattle.tags.specs.Tags.{Look, count_in}
use Rattle.index.specs.declared.Entry.{Entry}

-- the entry that a structure shows for a tag
abbrev pub entry_in : List ℕ → Section → Look → ℕ → Option Entry
entry_in s section look tag = entry_for s section (look tag)

-- "linux" and "/bin/sh", each with its zero byte
abbrev pub linux : List ℕ
linux = 0x6C ∷ 0x69 ∷ 0x6E ∷ 0x75 ∷ 0x78 ∷ 0 ∷ []

abbrev pub bin_sh : List ℕ
bin_sh = 0x2F ∷ 0x62 ∷ 0x69 ∷ 0x6E ∷ 0x2F ∷ 0x73 ∷ 0x68 ∷ 0 ∷ []

-- a tag's text, where the tag is present
abbrev pub found_text : List ℕ → List ℕ → Option Entry → Bool
found_text s text (Some entry) = same_bytes (found_bytes s (Some entry)) text
found_text s text None = true

abbrev pub text_is : List ℕ → Section → Look → List ℕ → ℕ → Bool
text_is s section look text tag = found_text s text (entry_in s section look tag)

-- 1085 to 1088, where present, are "/bin/sh"
abbrev pub programs : List ℕ
programs = 1085 ∷ 1086 ∷ 1087 ∷ 1088 ∷ []

abbrev pub program_check : List ℕ → Section → Look → ℕ → Verdict
program_check s header look tag = check (text_is s header look bin_sh tag) 18 tag pass

abbrev pub programs_check : List ℕ → Section → Look → Verdict
programs_check s header look = run_from (λ (i : ℕ). program_check s header look (get_or programs i 0)) 4 0

-- each of n 32-bit numbers from a place on is below a limit
unfoldable pub all_below : List ℕ → ℕ → ℕ → ℕ → Bool
all_below s limit zero at = true
all_below s limit (suc n) at = ltb (be32_at s at) limit && all_below s limit n (at + 4)

-- each 1116 value is below the count of 1118
abbrev pub found_below : List ℕ → ℕ → Option Entry → Bool
found_below s limit (Some entry) = all_below s limit entry.count entry.at.0
found_below s limit None = true

abbrev pub indexes_below : List ℕ → Section → Look → Bool
indexes_below s header look = found_below s (count_in look 1118) (entry_in s header look 1116)

-- each string ends with "/": in n bytes from a place on, the byte before each zero byte is "/" (0x2F)
unfoldable pub slashes_end : List ℕ → ℕ → ℕ → ℕ → Bool
slashes_end s last zero at = true
slashes_end s last (suc n) at =
    cond (eqb (get_or s at 0) 0) (eqb last 0x2F) true && slashes_end s (get_or s at 0) n (at + 1)

abbrev pub found_slashes : List ℕ → Option Entry → Bool
found_slashes s (Some entry) = slashes_end s 0 entry.extent entry.at.0
found_slashes s None = true

abbrev pub directories_end : List ℕ → Section → Look → Bool
directories_end s header look = found_slashes s (entry_in s header look 1118)

-- 18 | text | tag: 1021 is "linux"; 1085 to 1088, where present, are "/bin/sh"; each 1116 value is below the count of
-- 1118; each string of 1118 ends with "/"
unfoldable pub texts_check : List ℕ → Section → Look → Verdict
texts_check s header look =
    check (text_is s header look linux 1021) 18 1021
    (check (text_is s header look bin_sh 1085) 18 1085
    (check (text_is s header look bin_sh 1086) 18 1086
    (check (text_is s header look bin_sh 1087) 18 1087
    (check (text_is s header look bin_sh 1088) 18 1088
    (check (indexes_below s header look) 18 1116
    (check (directories_end s header look) 18 1118
    pass))))))
