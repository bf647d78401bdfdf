-- Kinds of one rank are one (same_rank), so a test of kinds tells them apart (kind_same, kind_other, same_yes, same_no). An
-- ASCII 0 is a digit (zero_digit); digits are 48 to 57 (digit_range).
use Rattle.std.proofs.Common.{◌≡◌, ℕ, ◌≤◌, Bool, true, false, cond, ◌&&◌, nat_cmp, leb, refl, ap, arith}
use Rattle.std.proofs.Common.{eq-eqb, ne_eqb, eqb-true, leb-true}
use borrow.Author.Tests.{eqb-false}
use denote.Enum.Bare.{sameb}
use Rattle.runs.specs.contracts.Kind.{the_type}
use Rattle.runs.specs.contracts.KindOrd.TheImpl.{cmp-value}
use Rattle.runs.specs.declared.Kind.{Kind}
use Rattle.runs.specs.declared.Kind.TheVariants.{Separator, Letter, Digit}
use Rattle.runs.specs.Runs.{rank, same_kind, digit, is_digit, is_letter, kind, of_kind, is_zero}

pub same_rank : (k l : Kind) → rank k ≡ rank l → k ≡ l
same_rank Separator Separator e = refl
same_rank Separator Letter e = absurd (omega arith)
same_rank Separator Digit e = absurd (omega arith)
same_rank Letter Separator e = absurd (omega arith)
same_rank Letter Letter e = refl
same_rank Letter Digit e = absurd (omega arith)
same_rank Digit Separator e = absurd (omega arith)
same_rank Digit Letter e = absurd (omega arith)
same_rank Digit Digit e = refl

-- what `==` answers
pub tested : (k l : Kind) → sameb the_type k l ≡ same_kind k l
tested Separator Separator = refl
tested Separator Letter = refl
tested Separator Digit = refl
tested Letter Separator = refl
tested Letter Letter = refl
tested Letter Digit = refl
tested Digit Separator = refl
tested Digit Letter = refl
tested Digit Digit = refl

-- what `cmp` answers
pub ordered : (k l : Kind) → cmp-value.it k l ≡ nat_cmp (rank k) (rank l)
ordered Separator Separator = refl
ordered Separator Letter = refl
ordered Separator Digit = refl
ordered Letter Separator = refl
ordered Letter Letter = refl
ordered Letter Digit = refl
ordered Digit Separator = refl
ordered Digit Letter = refl
ordered Digit Digit = refl

pub kind_same : (k l : Kind) → same_kind k l ≡ true → k ≡ l
kind_same k l h = same_rank k l (eqb-true (rank k) (rank l) h)

pub kind_other : (k l : Kind) → same_kind k l ≡ false → k ≡ l → ⊥
kind_other k l h e = eqb-false (rank k) (rank l) h (ap rank e)

pub same_yes : (k l : Kind) → k ≡ l → same_kind k l ≡ true
same_yes k l e = eq-eqb (rank k) (rank l) (ap rank e)

pub same_no : (k l : Kind) → (k ≡ l → ⊥) → same_kind k l ≡ false
same_no k l n = ne_eqb (rank k) (rank l) (λ e. n (same_rank k l e))

-- an ASCII 0 is a digit
pub zero_digit : (b : ℕ) → is_zero b ≡ true → of_kind digit b ≡ true
unfolding is_zero of_kind kind is_digit
zero_digit b h = let e = eqb-true b 48 h in rw e

-- digits are 48 to 57
pub digit_range : (b : ℕ) → of_kind digit b ≡ true → (48 ≤ b) × (b ≤ 57)
unfolding of_kind kind is_digit
digit_range b h = go (leb 48 b) (leb b 57) (is_letter b) refl refl (eqb-true _ _ h)
  where
    go : (p q l : Bool) → leb 48 b ≡ p → leb b 57 ≡ q → rank (cond (p && q) Digit (cond l Letter Separator)) ≡ 2
        → (48 ≤ b) × (b ≤ 57)
    go true true l e f g = (leb-true 48 b e, leb-true b 57 f)
    go true false true e f g = absurd (omega arith)
    go true false false e f g = absurd (omega arith)
    go false q true e f g = absurd (omega arith)
    go false q false e f g = absurd (omega arith)
