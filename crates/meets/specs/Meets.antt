-- Document 02, request 6: whether a version text meets what is required for a package name.
use Rattle.std.specs.Prelude.{ℕ, ◌/◌, ◌%◌, List, Bool, true, cond, ◌||◌, eqb, Option, Some, None, Result, Ok, Err}
use Rattle.be.specs.Numbers.{be32_at}
use Rattle.format.specs.declared.section.Section.{Section}
use Rattle.index.specs.declared.Entry.{Entry}
use Rattle.index.specs.Lookup.{find_in}
use Rattle.elements.specs.Elements.{element_of}
use Rattle.required.specs.declared.Requirement.{Requirement}
use Rattle.required.specs.Version.{text_of, requirement_for}
use Rattle.std.specs.declared.cmp.Ordering.{Ordering}
use Rattle.std.specs.declared.cmp.Ordering.TheVariants as order
use Rattle.version.specs.Version.{by_text}
use Rattle.format.specs.Verdicts.{Answer, refusal}
use Rattle.format.specs.declared.verdict.Refusal.{Refusal}

-- the tag of the flags, and the type int32
abbrev pub require_flags : ℕ
require_flags = 1048

abbrev pub int32 : ℕ
int32 = 4

-- the flags of the relations less, greater and equal
abbrev pub less : ℕ
less = 2

abbrev pub greater : ℕ
greater = 4

abbrev pub equal : ℕ
equal = 8

-- one of the flags is set
unfoldable pub is_set : ℕ → ℕ → Bool
is_set flags flag = eqb (flags / flag % 2) 1

-- the relation of a given text to the required one is flagged
abbrev pub is_flagged : ℕ → Ordering → Bool
is_flagged flags order.Less = is_set flags less
is_flagged flags order.Equal = is_set flags equal
is_flagged flags order.Greater = is_set flags greater

-- with any of the three flags, the text's relation is flagged; with none of them any text will do
unfoldable pub meets_by : ℕ → Ordering → Bool
meets_by flags order = cond (is_set flags less || (is_set flags greater || is_set flags equal)) (is_flagged flags order) true

-- yes is place 1, no is place 0
abbrev pub yes_or_no : Bool → Answer
yes_or_no b = cond b (Ok 1) (Ok 0)

-- the flags of number k, and the given text against the version of that number
abbrev pub decided_by : List ℕ → List ℕ → Entry → Entry → ℕ → Answer
decided_by s version flags versions k =
    yes_or_no (meets_by (be32_at s (element_of s flags k).at.0) (by_text version (text_of s (element_of s versions k))))

-- 25 where the flags are not int32 of the one count that names and versions have
abbrev pub decided_for : List ℕ → List ℕ → Entry → ℕ → Option Entry → Answer
decided_for s version versions k (Some flags) =
    cond (eqb flags.count versions.count) (decided_by s version flags versions k) (Err (refusal 25 0))
decided_for s version versions k None = Err (refusal 25 0)

unfoldable pub decided : List ℕ → List ℕ → Section → Entry → ℕ → Answer
decided s version header versions k = decided_for s version versions k (find_in s header require_flags int32)

-- the look-up's checks first, then 25 where no version is required for the name
abbrev pub meets_as : List ℕ → List ℕ → Result Requirement Refusal → Answer
meets_as s version (Ok wanted) = decided s version wanted.header wanted.versions wanted.number
meets_as s version (Err e) = Err e

unfoldable pub meets_answer : List ℕ → List ℕ → List ℕ → Answer
meets_answer s name version = meets_as s version (requirement_for s name)
