-- Request 1: the refusals of a writing, in order: 32, 33, 34.
use Rattle.std.specs.Prelude.{ℕ, List, length, leb}
use Rattle.format.specs.Sizes.{package_limit}
use Rattle.format.specs.Verdicts.{check, both, Verdict, pass}
use Rattle.lists.specs.Lists.{entries_of}
use Rattle.reasons.specs.Reasons.{reasons}
use Rattle.layout.specs.Layout.{written}

-- 33 | over the size limit | 0
-- 34 | buffer too short | the bytes needed
unfoldable pub room_check : ℕ → ℕ → Verdict
room_check needed room =
    check (leb needed package_limit) 33 0
    (check (leb needed room) 34 needed
    pass)

-- the package of a name and two lists as they are lent
abbrev pub written_of : List ℕ → List ℕ → List ℕ → List ℕ → List ℕ → List ℕ
written_of name signature signatureRow header headerRow =
    written name (entries_of signature signatureRow) (entries_of header headerRow)

-- 32 to 34
unfoldable pub write_check : List ℕ → List ℕ → List ℕ → List ℕ → List ℕ → ℕ → Verdict
write_check name signature signatureRow header headerRow room =
    both (reasons name signature signatureRow header headerRow)
    (room_check (length (written_of name signature signatureRow header headerRow)) room)
