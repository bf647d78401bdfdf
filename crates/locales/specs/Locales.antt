-- Request 2, the last group of check 17: every type 9 entry of the header has at most as many strings as tag 100.
use Rattle.std.specs.Prelude.{ℕ, List, Bool, not, ◌||◌, eqb, leb}
use Rattle.format.specs.declared.section.Section.{Section}
use Rattle.format.specs.declared.records.IndexRecord.{IndexRecord}
use Rattle.format.specs.Verdicts.{check, run_from, Verdict, pass}
use Rattle.entries.specs.Entries.{record_at}

-- an index record, with how many strings tag 100 has
abbrev pub is_within : ℕ → IndexRecord → Bool
is_within most e = not (eqb e.ty 9) || leb e.count most

unfoldable pub locale_check : ℕ → IndexRecord → Verdict
locale_check most e = check (is_within most e) 17 e.tag pass

-- place: the first offending tag in index order
abbrev pub locales_check : List ℕ → Section → ℕ → Verdict
locales_check s header most = run_from (λ (i : ℕ). locale_check most (record_at s header i)) header.nindex 0
