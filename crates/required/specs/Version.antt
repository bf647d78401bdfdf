-- Document 01, "Numbers the station shows": the version required for a lent package name.
use Rattle.std.specs.Prelude.{ℕ, zero, suc, ◌+◌, ◌-◌, List, cond, take, drop, eqb, Option, Some, None, Result, Ok, Err}
use Rattle.be.specs.Bytes.{same_bytes}
use Rattle.format.specs.declared.section.Section.{Section}
use Rattle.index.specs.declared.Entry.{Entry}
use Rattle.index.specs.Lookup.{find_in}
use Rattle.required.specs.declared.Requirement.{Requirement}
use Rattle.package.specs.Package.{sound_check, header_at}
use Rattle.lookups.specs.Lookup.{sought_bytes}
use Rattle.elements.specs.Elements.{element_of}
use Rattle.format.specs.Verdicts.{Verdict, refusal}
use Rattle.format.specs.declared.verdict.Refusal.{Refusal}

-- the tags, and the type of a string array
abbrev pub require_name : ℕ
require_name = 1049

abbrev pub require_version : ℕ
require_version = 1050

abbrev pub string_array : ℕ
string_array = 8

-- a single string without its zero byte
abbrev pub text_of : List ℕ → Entry → List ℕ
text_of s element = take (element.extent - 1) (drop element.at.0 s)

-- the number of the first of n names from number k on that is the lent name, compared whole
unfoldable pub number_from : List ℕ → List ℕ → Entry → ℕ → ℕ → Option ℕ
number_from s name names zero k = None
number_from s name names (suc n) k =
    cond (same_bytes (text_of s (element_of s names k)) name) (Some k) (number_from s name names n (k + 1))

abbrev pub requirement_as : Section → Entry → Option ℕ → Result Requirement Refusal
requirement_as header versions (Some k) = Ok (record { header = header; versions = versions; number = k })
requirement_as header versions None = Err (refusal 25 0)

-- two string arrays of one count
abbrev pub requirement_among : List ℕ → List ℕ → Section → Option Entry → Option Entry → Result Requirement Refusal
requirement_among s name header (Some names) (Some versions) =
    cond (eqb names.count versions.count)
    (requirement_as header versions (number_from s name names names.count 0))
    (Err (refusal 25 0))
requirement_among s name header (Some names) None = Err (refusal 25 0)
requirement_among s name header None versions = Err (refusal 25 0)

abbrev pub requirement_in : List ℕ → List ℕ → Section → Result Requirement Refusal
requirement_in s name header =
    requirement_among s name header (find_in s header require_name string_array) (find_in s header require_version string_array)

abbrev pub requirement_by : Verdict → Result Requirement Refusal → Result Requirement Refusal
requirement_by (Ok _) requirement = requirement
requirement_by (Err e) requirement = Err e

-- what is required for a name: the versions, and the number that the name and its version have
unfoldable pub requirement_for : List ℕ → List ℕ → Result Requirement Refusal
requirement_for s name = requirement_by (sound_check s) (requirement_in s name (header_at s))

-- the version of that number
abbrev pub version_of : List ℕ → Result Requirement Refusal → Result Entry Refusal
version_of s (Ok requirement) = Ok (element_of s requirement.versions requirement.number)
version_of s (Err e) = Err e

unfoldable pub sought_version : List ℕ → List ℕ → Result Entry Refusal
sought_version s name = version_of s (requirement_for s name)

-- the part of the package that is the version, with its zero byte, or an empty part
abbrev pub required_version : List ℕ → List ℕ → List ℕ
required_version s name = sought_bytes s (sought_version s name)
