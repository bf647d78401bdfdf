-- Digits, letters and separators are the bytes of the three kinds (digit_of, letter_of, separator_of); runs are of two
-- (solid, solid_ne). A statement of every byte of a list: every_none, every_cons, every_tail, every_map, longest_map.
use Prim.Native.Nat.{ℕ, zero, suc, ◌≤◌}
use mathlib.Core.Path.{◌≡◌, refl}
use mathlib.Core.Logic.{◌↔◌, ⊎_elim, inl, inr}
use mathlib.Core.List.{List, [], ◌∷◌}
use mathlib.Core.Bool.{Bool, true, false, cond, ◌&&◌, ◌||◌}
use lib.Dec.{leb}
use lib.ListN.{get_or}
use borrow.Author.Tests.{leb-true, leb-false}
use native.Mathlib.Omega.{arith}
use Rattle.runs.specs.declared.Kind.{Kind}
use Rattle.runs.specs.Runs.{separator, letter, digit, is_digit, is_letter, kind}
use Rattle.version.specs.Theorems.{Digit, Letter, Separator, Every, Longest}

-- a test of a range
data Within (low high b : ℕ) : Bool → Type 0 where
  inside : low ≤ b → b ≤ high → Within low high b true
  outside : ((low ≤ b) × (b ≤ high) → ⊥) → Within low high b false

within : (low high b : ℕ) → Within low high b (leb low b && leb b high)
within low high b = go (leb low b) (leb b high) refl refl
  where
    go : (p q : Bool) → leb low b ≡ p → leb b high ≡ q → Within low high b (p && q)
    go true true h k = inside (leb-true low b h) (leb-true b high k)
    go true false h k = outside (λ w. omega (arith, leb-false b high k, w.1))
    go false true h k = outside (λ w. omega (arith, leb-false low b h, w.0))
    go false false h k = outside (λ w. omega (arith, leb-false low b h, w.0))

-- a byte of each kind
data Sort (b : ℕ) : Kind → Type 0 where
  of_digits : Digit b → Sort b digit
  of_letters : Letter b → Sort b letter
  of_separators : Separator b → Sort b separator

sort : (b : ℕ) → Sort b (kind b)
unfolding kind is_digit is_letter
sort b = go (within 48 57 b) (within 65 90 b) (within 97 122 b)
  where
    go : {p q r : Bool} → Within 48 57 b p → Within 65 90 b q → Within 97 122 b r
        → Sort b (cond p digit (cond (q || r) letter separator))
    go (inside h k) y z = of_digits (h, k)
    go (outside n) (inside h k) z = of_letters (inl (h, k))
    go (outside n) (outside m) (inside h k) = of_letters (inr (h, k))
    go (outside n) (outside m) (outside l) = of_separators (n, ⊎_elim m l)

apart : (b : ℕ) → Digit b → Letter b → ⊥
apart b d (inl h) = omega arith
apart b d (inr h) = omega arith

-- the bytes of a kind
abbrev pub Of : Kind → ℕ → Type 0
Of k b = kind b ≡ k

pub digit_of : (b : ℕ) → Digit b ↔ Of digit b
digit_of b = go (sort b)
  where
    go : {k : Kind} → Sort b k → Digit b ↔ (k ≡ digit)
    go (of_digits d) = (λ e. refl, λ e. d)
    go (of_letters l) = (λ d. absurd (apart b d l), λ e. absurd (grind arith))
    go (of_separators s) = (λ d. absurd (s.0 d), λ e. absurd (grind arith))

pub letter_of : (b : ℕ) → Letter b ↔ Of letter b
letter_of b = go (sort b)
  where
    go : {k : Kind} → Sort b k → Letter b ↔ (k ≡ letter)
    go (of_digits d) = (λ l. absurd (apart b d l), λ e. absurd (grind arith))
    go (of_letters l) = (λ e. refl, λ e. l)
    go (of_separators s) = (λ l. absurd (s.1 l), λ e. absurd (grind arith))

pub separator_of : (b : ℕ) → Separator b ↔ Of separator b
separator_of b = go (sort b)
  where
    go : {k : Kind} → Sort b k → Separator b ↔ (k ≡ separator)
    go (of_digits d) = (λ s. absurd (s.0 d), λ e. absurd (grind arith))
    go (of_letters l) = (λ s. absurd (s.1 l), λ e. absurd (grind arith))
    go (of_separators s) = (λ e. refl, λ e. s)

-- the two kinds of runs
pub data Solid : Kind → Type 0 where
  digits : Solid digit
  letters : Solid letter

pub solid : (b : ℕ) → (kind b ≡ separator → ⊥) → Solid (kind b)
solid b = go (sort b)
  where
    go : {k : Kind} → Sort b k → (k ≡ separator → ⊥) → Solid k
    go (of_digits d) n = digits
    go (of_letters l) n = letters
    go (of_separators s) n = absurd (n refl)

pub solid_ne : {k : Kind} → Solid k → k ≡ separator → ⊥
solid_ne digits e = grind arith
solid_ne letters e = grind arith

-- every byte of a list
pub every_none : (P : ℕ → Type 0) → Every P []
every_none P i l = absurd (omega arith)

pub every_cons : (P : ℕ → Type 0) (b : ℕ) (bs : List ℕ) → P b → Every P bs → Every P (b ∷ bs)
every_cons P b bs h k zero l = h
every_cons P b bs h k (suc i) l = k i (omega arith)

pub every_tail : (P : ℕ → Type 0) (b : ℕ) (bs : List ℕ) → Every P (b ∷ bs) → Every P bs
every_tail P b bs h i l = h (suc i) (omega arith)

module _ (P Q : ℕ → Type 0) (same : (b : ℕ) → P b ↔ Q b) where
  pub every_map : (bs : List ℕ) → Every P bs → Every Q bs
  every_map bs h i l = (same (get_or bs i 0)).0 (h i l)

  pub longest_map : {bs s : List ℕ} → Longest P bs s → Longest Q bs s
  longest_map {bs} {s} h = record {
    some = h.some;
    all = every_map bs h.all;
    ends = λ l q. h.ends l ((same (get_or s 0 0)).1 q);
  }
