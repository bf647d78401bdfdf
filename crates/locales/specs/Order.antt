-- Request 2: "place: the first offending tag in index order". What that comes to.
use Rattle.std.specs.Prelude.{ℕ, ◌<◌, ◌≡◌, ◌↔◌, List, Err}
use Rattle.format.specs.declared.section.Section.{Section}
use Rattle.format.specs.declared.records.IndexRecord.{IndexRecord}
use Rattle.entries.specs.Entries.{record_at}
use Rattle.locales.specs.Locales.{locales_check}
use Rattle.format.specs.Verdicts.{pass, refusal}

-- more translated strings than so many
abbrev pub Offends : ℕ → IndexRecord → Type 0
Offends most e = (e.ty ≡ 9) × (most < e.count)

-- a record of the header that offends and has the tag, and no record before it offends
pub record FirstOffends (s : List ℕ) (header : Section) (most tag : ℕ) : Type 0 where
  pub number : ℕ
  pub within : number < header.nindex
  pub tagged : (record_at s header number).tag ≡ tag
  pub offends : Offends most (record_at s header number)
  pub before : (k : ℕ) → k < number → Offends most (record_at s header k) → ⊥

abbrev pub LocalesPass : Type 0
LocalesPass =
    (s : List ℕ) (header : Section) (most : ℕ)
    → (locales_check s header most ≡ pass) ↔ ((i : ℕ) → i < header.nindex → Offends most (record_at s header i) → ⊥)

abbrev pub LocalesInOrder : Type 0
LocalesInOrder =
    (s : List ℕ) (header : Section) (most number tag : ℕ)
    → (locales_check s header most ≡ Err (refusal number tag)) ↔ ((number ≡ 17) × FirstOffends s header most tag)
