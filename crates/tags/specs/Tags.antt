-- What the rules ask of a tag, over what a structure shows for each tag: the index record that has it, where there is one.
use Rattle.std.specs.Prelude.{ℕ, List, Bool, true, false, Option, Some, None}
use Rattle.be.specs.Numbers.{be32_at}
use Rattle.format.specs.declared.section.Section.{Section}
use Rattle.format.specs.Places.{in_file}
use Rattle.format.specs.declared.records.IndexRecord.{IndexRecord}

-- a look-up by tag
abbrev pub Look : Type 0
Look = ℕ → Option IndexRecord

abbrev pub is_present : Option IndexRecord → Bool
is_present (Some e) = true
is_present None = false

-- a tag that is absent has count 0
abbrev pub count_of : Option IndexRecord → ℕ
count_of (Some e) = e.count
count_of None = 0

abbrev pub has : Look → ℕ → Bool
has look tag = is_present (look tag)

abbrev pub count_in : Look → ℕ → ℕ
count_in look tag = count_of (look tag)

-- the 32-bit number that a tag's data begins with; 0 where the tag is absent
abbrev pub number_at : List ℕ → Section → Option IndexRecord → ℕ
number_at s section (Some e) = be32_at s (in_file section e.offset)
number_at s section None = 0

abbrev pub number_in : List ℕ → Section → Look → ℕ → ℕ
number_in s section look tag = number_at s section (look tag)
