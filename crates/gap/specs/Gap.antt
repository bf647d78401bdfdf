-- Request 5: the gap, the bytes between the signature's end and H. The package's length is a number of its own; bytes past the end
-- of the list read as 0.
use Rattle.std.specs.Prelude.{ℕ, ◌-◌, List, Bool, cond, get_or, eqb, leb}
use Rattle.format.specs.Verdicts.{check, run_from, Verdict, pass}

-- where the gap ends in a package of len bytes: at H, or where the package does
abbrev pub gap_end : ℕ → ℕ → ℕ
gap_end len start = cond (leb start len) start len

-- 28 | a byte between the signature's end and H isn't zero | its file offset
abbrev pub is_zero_at : List ℕ → ℕ → Bool
is_zero_at s i = eqb (get_or s i 0) 0

unfoldable pub zero_check : List ℕ → ℕ → Verdict
zero_check s i = check (is_zero_at s i) 28 i pass

-- 28 for each byte of the gap in turn: the signature ends at `end`, and H is `start`
unfoldable pub gap_check : List ℕ → ℕ → ℕ → ℕ → Verdict
gap_check s len end start = run_from (zero_check s) (gap_end len start - end) end
