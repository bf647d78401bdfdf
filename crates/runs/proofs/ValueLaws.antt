-- Digits by value: behind leading zeros they compare by length and then digit by digit (by_lengths); so do the runs of two
-- texts, by what stands at their first difference (by_digits).
use Rattle.std.proofs.Common.{◌≡◌, ℕ, ◌+◌, ◌*◌, ◌-◌, ◌≤◌, ◌<◌, List, [], ◌∷◌, Bool, true, false, cond, length, take, drop}
use Rattle.std.proofs.Common.{Ordering, nat_cmp, refl, ap, ap₂, ◌∙◌, arith, length-take-le, one-add, eqb-true}
use Rattle.std.proofs.lemmas.List.Sums.{prefix_len-le-length}
use Rattle.std.specs.Cmp.Lexicographic.{slice_cmp}
use Rattle.std.specs.List.{prefix_len}
use Rattle.std.specs.Ordering.{ordering_then}
use borrow.Author.Tests.{eqb-false}
use Rattle.runs.specs.Runs.{digit, rank, of_kind, is_zero, value_from, by_run, front_run}
use Rattle.runs.specs.Common.{common, by_first}
use Rattle.runs.proofs.OrderLaws.{less, more, equal, Compared, is_less, is_same, is_more, compared, then_equal}
use Rattle.runs.proofs.KindLaws.{zero_digit, digit_range}
use Rattle.runs.proofs.FrontLaws.{front_pass}
use Rattle.runs.proofs.CommonLaws.{First, first}

-- digits alone
data Numeric : List ℕ → Type 0 where
  none : Numeric []
  one : {d : ℕ} {ds : List ℕ} → 48 ≤ d → d ≤ 57 → Numeric ds → Numeric (d ∷ ds)

-- with no zero in front
data Led : List ℕ → Type 0 where
  empty : Led []
  led : {d : ℕ} {ds : List ℕ} → 49 ≤ d → Led (d ∷ ds)

-- a smaller number in front stays smaller behind no more digits
value_less : (ds es : List ℕ) (a b : ℕ) → Numeric ds → length ds ≤ length es → a < b → value_from a ds < value_from b es
unfolding value_from
value_less [] [] a b none l h = h
value_less [] (e ∷ es) a b none l h = value_less [] es a (b * 10 + (e - 48)) none (omega arith) (omega arith)
value_less (d ∷ ds) [] a b n l h = absurd (omega arith)
value_less (d ∷ ds) (e ∷ es) a b (one p q n) l h =
    value_less ds es (a * 10 + (d - 48)) (b * 10 + (e - 48)) n (omega arith) (omega arith)

heads : (d e : ℕ) (ds es : List ℕ) (a : ℕ) {o : Ordering} → Compared d e o
    → 48 ≤ d → 48 ≤ e → d ≤ 57 → e ≤ 57 → Numeric ds → Numeric es → length ds ≡ length es
    → ((b : ℕ) → nat_cmp (value_from b ds) (value_from b es) ≡ slice_cmp nat_cmp ds es)
    → nat_cmp (value_from (a * 10 + (d - 48)) ds) (value_from (a * 10 + (e - 48)) es) ≡ ordering_then o (slice_cmp nat_cmp ds es)
heads d e ds es a (is_less h) p p' q q' n m l k = less _ _ (value_less ds es _ _ n (omega arith) (omega arith))
heads d e ds es a (is_same h) p p' q q' n m l k = rw h (k _)
heads d e ds es a (is_more h) p p' q q' n m l k = more _ _ (value_less es ds _ _ m (omega arith) (omega arith))

value_even : (ds es : List ℕ) (a : ℕ) → Numeric ds → Numeric es → length ds ≡ length es
    → nat_cmp (value_from a ds) (value_from a es) ≡ slice_cmp nat_cmp ds es
unfolding value_from
value_even [] [] a n m l = equal a a refl
value_even [] (e ∷ es) a n m l = absurd (omega arith)
value_even (d ∷ ds) [] a n m l = absurd (omega arith)
value_even (d ∷ ds) (e ∷ es) a (one p q n) (one p' q' m) l =
    heads d e ds es a (compared d e) p p' q q' n m (omega arith) (λ b. value_even ds es b n m (omega arith))

longer_more : (ds es : List ℕ) → Numeric ds → Led es → length ds < length es → value_from 0 ds < value_from 0 es
unfolding value_from
longer_more ds [] n empty l = absurd (omega arith)
longer_more ds (e ∷ es) n (led h) l = value_less ds es 0 (0 * 10 + (e - 48)) n (omega arith) (omega arith)

by_lengths : (ds es : List ℕ) {o : Ordering} → Compared (length ds) (length es) o → Numeric ds → Numeric es → Led ds → Led es
    → nat_cmp (value_from 0 ds) (value_from 0 es) ≡ ordering_then o (slice_cmp nat_cmp ds es)
by_lengths ds es (is_less h) n m x y = less _ _ (longer_more ds es n y h)
by_lengths ds es (is_same h) n m x y = value_even ds es 0 n m h
by_lengths ds es (is_more h) n m x y = more _ _ (longer_more es ds m x h)

-- the digits in front of a text
abbrev numeral : List ℕ → List ℕ
numeral s = take (prefix_len (of_kind digit) s) s

numeric : (s : List ℕ) → Numeric (numeral s)
numeric [] = none
numeric (b ∷ s) = go (of_kind digit b) refl (numeric s)
  where
    go : (t : Bool) → of_kind digit b ≡ t → Numeric (numeral s)
        → Numeric (take (cond t (1 + prefix_len (of_kind digit) s) 0) (b ∷ s))
    go true h n = let r = digit_range b h in rw (one-add (prefix_len (of_kind digit) s)) (one r.0 r.1 n)
    go false h n = none

counted : (s : List ℕ) → length (numeral s) ≡ prefix_len (of_kind digit) s
counted s = length-take-le _ s (prefix_len-le-length (of_kind digit) s)

-- behind the zeros in front
abbrev behind : List ℕ → List ℕ
behind s = drop (prefix_len is_zero s) s

led_behind : (s : List ℕ) → Led (numeral (behind s))
unfolding is_zero
led_behind [] = empty
led_behind (b ∷ s) = go (is_zero b) refl (led_behind s)
  where
    top : (t : Bool) → of_kind digit b ≡ t → is_zero b ≡ false → Led (take (cond t (1 + prefix_len (of_kind digit) s) 0) (b ∷ s))
    top true h z = let r = digit_range b h in let n = eqb-false b 48 z in rw (one-add (prefix_len (of_kind digit) s)) (led {d = b} (omega arith))
    top false h z = empty

    go : (t : Bool) → is_zero b ≡ t → Led (numeral (behind s)) → Led (numeral (drop (cond t (1 + prefix_len is_zero s) 0) (b ∷ s)))
    go true h l = rw (one-add (prefix_len is_zero s)) l
    go false h l = top (of_kind digit b) refl h

zeros_value : (s : List ℕ) → value_from 0 (numeral s) ≡ value_from 0 (numeral (behind s))
unfolding is_zero value_from
zeros_value [] = refl
zeros_value (b ∷ s) = go (is_zero b) refl (zeros_value s)
  where
    go : (t : Bool) → is_zero b ≡ t → value_from 0 (numeral s) ≡ value_from 0 (numeral (behind s))
        → value_from 0 (numeral (b ∷ s)) ≡ value_from 0 (numeral (drop (cond t (1 + prefix_len is_zero s) 0) (b ∷ s)))
    go true h e =
        rw (one-add (prefix_len is_zero s))
        (ap (λ (n : ℕ). value_from 0 (take n (b ∷ s))) (front_pass (of_kind digit) b s (zero_digit b h) ∙ one-add _)
        ∙ ap (λ (n : ℕ). value_from n (numeral s)) (omega (arith, eqb-true b 48 h)) ∙ e)
    go false h e = refl

pub added : (n a b : ℕ) {o : Ordering} → Compared a b o → nat_cmp (n + a) (n + b) ≡ o
added n a b (is_less h) = less (n + a) (n + b) (omega arith)
added n a b (is_same h) = equal (n + a) (n + b) (omega arith)
added n a b (is_more h) = more (n + a) (n + b) (omega arith)

-- the runs of digits of two texts: behind their zeros the longer is newer, else the higher at the first difference
module _ (s t : List ℕ) where
  abbrev pub apart : ℕ
  apart = common digit (behind s) (behind t)

  at_first_lem : First digit (behind s) (behind t) apart
  at_first_lem = first digit (behind s) (behind t)

  pub by_digits : by_run (front_run digit s) (front_run digit t) ≡ by_first (drop apart (behind s)) (drop apart (behind t))
  unfolding by_run front_run by_first
  by_digits =
      let f = at_first_lem in
      then_equal _ (equal (rank digit) (rank digit) refl)
      ∙ ap₂ nat_cmp (zeros_value s) (zeros_value t)
      ∙ by_lengths (numeral (behind s)) (numeral (behind t)) (compared _ _) (numeric (behind s)) (numeric (behind t))
      (led_behind s) (led_behind t)
      ∙ ap₂ ordering_then
      (ap₂ nat_cmp (counted (behind s) ∙ f.left) (counted (behind t) ∙ f.right) ∙ added apart _ _ (compared _ _)) f.order
