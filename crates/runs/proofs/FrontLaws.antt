-- How many bytes in front pass a test (front_pass, front_fail), behind zeros (zeros_front). A list from a place on: next,
-- part_rest.
use Rattle.std.proofs.Common.{◌≡◌, ℕ, ◌+◌, ◌-◌, ◌<◌, List, [], ◌∷◌, Bool, true, false, cond, refl, arith, add-one, one-add}
use Rattle.std.proofs.Common.{length, take, drop, get_or, length-drop, drop-cons}
use lib.Seq.{take-length}
use Rattle.std.specs.List.{prefix_len}
use Rattle.runs.specs.Runs.{digit, of_kind, is_zero}
use Rattle.runs.proofs.KindLaws.{zero_digit}

-- a list from a place on
pub next : (s : List ℕ) (i : ℕ) → i < length s → drop i s ≡ get_or s i 0 ∷ drop (i + 1) s
next s i h = rw (add-one, drop-cons s i 0)

pub part_rest : (s : List ℕ) (i : ℕ) → take (length s - i) (drop i s) ≡ drop i s
part_rest s i = rw (← length-drop i s) (take-length (drop i s))

module _ (test : ℕ → Bool) where
  pub front_pass : (b : ℕ) (s : List ℕ) → test b ≡ true → prefix_len test (b ∷ s) ≡ 1 + prefix_len test s
  front_pass b s h = rw h

  pub front_fail : (b : ℕ) (s : List ℕ) → test b ≡ false → prefix_len test (b ∷ s) ≡ 0
  front_fail b s h = rw h

-- digits in front are the zeros, and the digits behind them
pub zeros_front : (s : List ℕ)
    → prefix_len (of_kind digit) s ≡ prefix_len is_zero s + prefix_len (of_kind digit) (drop (prefix_len is_zero s) s)
zeros_front [] = refl
zeros_front (b ∷ s) = go (is_zero b) refl (zeros_front s)
  where
    go : (t : Bool) → is_zero b ≡ t
        → prefix_len (of_kind digit) s ≡ prefix_len is_zero s + prefix_len (of_kind digit) (drop (prefix_len is_zero s) s)
        → prefix_len (of_kind digit) (b ∷ s)
        ≡ cond t (1 + prefix_len is_zero s) 0 + prefix_len (of_kind digit) (drop (cond t (1 + prefix_len is_zero s) 0) (b ∷ s))
    go true h e = rw (one-add (prefix_len is_zero s)) (omega (arith, front_pass (of_kind digit) b s (zero_digit b h)))
    go false h e = omega arith
