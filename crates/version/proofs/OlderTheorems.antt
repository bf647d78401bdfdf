-- Where two relations tell what a comparison answers, they tell it of lists (told_lists): so of letters by numbers
-- (told_number, told_bytes), of runs by both (told_run), and of texts by runs (older_exactly, same_exactly).
use Rattle.std.proofs.Common.{◌≡◌, ℕ, ◌<◌, ◌↔◌, List, [], ◌∷◌, Ordering, Less, Equal, Greater, nat_cmp, refl, sym, ap₂, ◌∙◌, arith}
use Rattle.std.proofs.lemmas.Cmp.{nat_list_cmp_total, tied_itself}
use Rattle.std.specs.Cmp.Lexicographic.{slice_cmp}
use Rattle.std.specs.Ordering.{ordering_then}
use Rattle.runs.specs.Runs.{letter, digit, Run, run, value, by_run}
use Rattle.runs.proofs.OrderLaws.{less, equal, compared, less_means, equal_means, then_equal, then_less, both_equal}
use Rattle.version.specs.Version.{by_text}
use Rattle.version.specs.Theorems.{Parted, Before, Paired, AlikeRuns, LowerRun, OlderExactly, SameExactly}
use Rattle.version.proofs.RunTheorems.{runs_exactly}

-- what the answers Less and Equal say
record Told {A : Type 0} (by : A → A → Ordering) (Alike Lower : A → A → Type 0) (x y : A) : Type 0 where
  older : (by x y ≡ Less) ↔ Lower x y
  same : (by x y ≡ Equal) ↔ Alike x y

-- every element of a list
data Each {A : Type 0} (P : A → Type 0) : List A → Type 0 where
  none : Each P []
  one : {x : A} {xs : List A} → P x → Each P xs → Each P (x ∷ xs)

module _ {A : Type 0} (by : A → A → Ordering) (Alike Lower : A → A → Type 0) (Fit : A → Type 0)
    (told : (x y : A) → Fit x → Fit y → Told by Alike Lower x y) where
  list_before : (xs ys : List A) → Each Fit xs → Each Fit ys → slice_cmp by xs ys ≡ Less → Before Alike Lower xs ys
  list_before [] [] f g h = absurd (grind arith)
  list_before [] (y ∷ ys) f g h = Before.missing
  list_before (x ∷ xs) [] f g h = absurd (grind arith)
  list_before (x ∷ xs) (y ∷ ys) (one f fs) (one g gs) h = go (by x y) refl (list_before xs ys fs gs) h
    where
      go : (o : Ordering) → by x y ≡ o → (slice_cmp by xs ys ≡ Less → Before Alike Lower xs ys)
          → ordering_then o (slice_cmp by xs ys) ≡ Less → Before Alike Lower (x ∷ xs) (y ∷ ys)
      go Less e r h = Before.here ((told x y f g).older.0 e)
      go Equal e r h = Before.later ((told x y f g).same.0 e) (r h)
      go Greater e r h = absurd (grind arith)

  before_list : {xs ys : List A} → Each Fit xs → Each Fit ys → Before Alike Lower xs ys → slice_cmp by xs ys ≡ Less
  before_list f g Before.missing = refl
  before_list (one f fs) (one g gs) (Before.here l) = then_less _ ((told _ _ f g).older.1 l)
  before_list (one f fs) (one g gs) (Before.later a b) = then_equal _ ((told _ _ f g).same.1 a) ∙ before_list fs gs b

  list_paired : (xs ys : List A) → Each Fit xs → Each Fit ys → slice_cmp by xs ys ≡ Equal → Paired Alike xs ys
  list_paired [] [] f g h = Paired.ends
  list_paired [] (y ∷ ys) f g h = absurd (grind arith)
  list_paired (x ∷ xs) [] f g h = absurd (grind arith)
  list_paired (x ∷ xs) (y ∷ ys) (one f fs) (one g gs) h =
      let e = both_equal _ _ h in Paired.pair ((told x y f g).same.0 e.0) (list_paired xs ys fs gs e.1)

  paired_list : {xs ys : List A} → Each Fit xs → Each Fit ys → Paired Alike xs ys → slice_cmp by xs ys ≡ Equal
  paired_list f g Paired.ends = refl
  paired_list (one f fs) (one g gs) (Paired.pair a b) = then_equal _ ((told _ _ f g).same.1 a) ∙ paired_list fs gs b

  told_lists : (xs ys : List A) → Each Fit xs → Each Fit ys → Told (slice_cmp by) (Paired Alike) (Before Alike Lower) xs ys
  told_lists xs ys f g = record {
    older = (list_before xs ys f g, before_list f g);
    same = (list_paired xs ys f g, paired_list f g);
  }

-- numbers, and bytes one by one
any : {A : Type 0} (xs : List A) → Each (λ (x : A). Unit {0}) xs
any [] = none
any (x ∷ xs) = one tt (any xs)

told_number : (a b : ℕ) → Told nat_cmp (λ (a b : ℕ). a ≡ b) (λ (a b : ℕ). a < b) a b
told_number a b = record {
  older = (less_means a b (compared a b), less a b);
  same = (equal_means a b (compared a b), equal a b);
}

told_bytes : (bs cs : List ℕ)
    → Told (slice_cmp nat_cmp) (Paired (λ (a b : ℕ). a ≡ b)) (Before (λ (a b : ℕ). a ≡ b) (λ (a b : ℕ). a < b)) bs cs
told_bytes bs cs = told_lists nat_cmp _ _ (λ (b : ℕ). Unit {0}) (λ a b f g. told_number a b) bs cs (any bs) (any cs)

paired_equal : {bs cs : List ℕ} → Paired (λ (a b : ℕ). a ≡ b) bs cs → bs ≡ cs
paired_equal Paired.ends = refl
paired_equal (Paired.pair e p) = ap₂ ◌∷◌ e (paired_equal p)

-- runs of the two kinds
data Sound : Run → Type 0 where
  digits : (ds : List ℕ) → Sound (run digit ds)
  letters : (bs : List ℕ) → Sound (run letter bs)

sound : {s : List ℕ} {rs : List Run} → Parted s rs → Each Sound rs
sound (Parted.none sep h) = none
sound (Parted.digits sep ds s h l p) = one (digits ds) (sound p)
sound (Parted.letters sep bs s h l p) = one (letters bs) (sound p)

older_lower : {r q : Run} → Sound r → Sound q → by_run r q ≡ Less → LowerRun r q
unfolding by_run
older_lower (digits ds) (digits es) h = LowerRun.values ds es ((told_number (value ds) (value es)).older.0 h)
older_lower (digits ds) (letters cs) h = absurd (grind arith)
older_lower (letters bs) (digits es) h = LowerRun.kinds
older_lower (letters bs) (letters cs) h = LowerRun.bytes ((told_bytes bs cs).older.0 h)

lower_older : {r q : Run} → LowerRun r q → by_run r q ≡ Less
unfolding by_run
lower_older LowerRun.kinds = refl
lower_older (LowerRun.values ds es l) = (told_number (value ds) (value es)).older.1 l
lower_older (LowerRun.bytes {bs} {cs} b) = (told_bytes bs cs).older.1 b

same_alike : {r q : Run} → Sound r → Sound q → by_run r q ≡ Equal → AlikeRuns r q
unfolding by_run
same_alike (digits ds) (digits es) h = AlikeRuns.values ds es ((told_number (value ds) (value es)).same.0 h)
same_alike (digits ds) (letters cs) h = absurd (grind arith)
same_alike (letters bs) (digits es) h = absurd (grind arith)
same_alike (letters bs) (letters cs) h = rw (paired_equal ((told_bytes bs cs).same.0 h)) AlikeRuns.bytes

alike_same : {r q : Run} → AlikeRuns r q → by_run r q ≡ Equal
unfolding by_run
alike_same (AlikeRuns.values ds es e) = (told_number (value ds) (value es)).same.1 e
alike_same (AlikeRuns.bytes {bs}) = tied_itself nat_list_cmp_total bs

told_run : (r q : Run) → Sound r → Sound q → Told by_run AlikeRuns LowerRun r q
told_run r q f g = record { older = (older_lower f g, lower_older); same = (same_alike f g, alike_same) }

-- texts
module _ (s t : List ℕ) (rs qs : List Run) (p : Parted s rs) (q : Parted t qs) where
  told_parts : Told (slice_cmp by_run) (Paired AlikeRuns) (Before AlikeRuns LowerRun) rs qs
  told_parts = told_lists by_run AlikeRuns LowerRun Sound told_run rs qs (sound p) (sound q)

  by_parts : by_text s t ≡ slice_cmp by_run rs qs
  unfolding by_text
  by_parts = sym (ap₂ (slice_cmp by_run) ((runs_exactly s rs).0 p) ((runs_exactly t qs).0 q))

pub older_exactly : OlderExactly
older_exactly s t rs qs p q = rw (by_parts s t rs qs p q) (told_parts s t rs qs p q).older

pub same_exactly : SameExactly
same_exactly s t rs qs p q = rw (by_parts s t rs qs p q) (told_parts s t rs qs p q).same
