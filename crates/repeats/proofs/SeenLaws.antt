-- Laws of what a walk keeps of the tags it has passed: a tag over the highest is none of them (above), nor is one whose flag
-- is not set (unmarked); with one record more (none_over, one_higher; none_marked, one_marked); a turn of the walks (ends, turn;
-- alone, first_passed, risen_2, rise_2, rise_last, untold).
use Prim.Native.Nat.{ℕ, zero, suc, ◌+◌, ◌-◌, ◌*◌, ◌≤◌, ◌<◌}
use mathlib.Core.Path.{◌≡◌, refl, sym, ap, ◌∙◌}
use mathlib.Core.List.{List}
use mathlib.Core.Bool.{Bool, true, false}
use lib.ListN.{length}
use lib.Dec.{eqb, ltb}
use native.Mathlib.Omega.{arith}
use borrow.Author.Tests.{ne_eqb, eqb-true, eqb-false, ltb-true}
use Rattle.be.specs.Numbers.{be32_at}
use Rattle.flags.specs.Flags.{is_set, marked}
use Rattle.flags.proofs.FlagLaws.{set_now, set_still}
use Rattle.among.specs.Among.{tag_among, first_from}
use Rattle.among.proofs.FirstLaws.{found, next, begun, spent}
use Rattle.repeats.specs.Repeats.{repeated_among}
use Rattle.repeats.specs.Seen.{AtMost, Marked}

none : (s : List ℕ) (tag i : ℕ) → ((j : ℕ) → j < i → be32_at s (16 * j) ≡ tag → ⊥) → tag_among s i tag ≡ false
unfolding tag_among
none s tag zero h = refl
none s tag (suc i) h =
    rw (ne_eqb (be32_at s (16 * i)) tag (h i (omega arith)), none s tag i (λ j l. h j (omega arith)))

module _ (s : List ℕ) (i : ℕ) where
  pub above : {highest : ℕ} (tag : ℕ) → AtMost s i highest → highest < tag → false ≡ tag_among s i tag
  above tag seen l = sym (none s tag i (λ j m q. let h = seen.each j m in omega arith))

  pub unmarked : {flags : List ℕ} {r : Bool} (tag : ℕ) → Marked s i flags → r ≡ is_set flags tag → r ≡ false
      → false ≡ tag_among s i tag
  unmarked {flags} tag seen q h = sym (none s tag i (λ j l e. off j l e))
    where
      off : (j : ℕ) → j < i → be32_at s (16 * j) ≡ tag → ⊥
      off j l e =
          let set : is_set flags tag ≡ true = ap (λ (n : ℕ). is_set flags n) (sym e) ∙ seen.each j l in
          let z : ◌≡◌ {A = ℕ} 0 1 = cc in
          omega arith

pub none_over : (s : List ℕ) (highest : ℕ) → AtMost s 0 highest
none_over s highest = record { each = λ j l. absurd (omega arith) }

pub none_marked : (s flags : List ℕ) → Marked s 0 flags
none_marked s flags = record { each = λ j l. absurd (omega arith) }

-- what holds of the first i and of number i holds of the first i + 1
one_more : (P : ℕ → Type 0) (i : ℕ) → ((j : ℕ) → j < i → P j) → P i → (j : ℕ) → j < i + 1 → P j
one_more P i before here j l = go (eqb j i) refl
  where
    go : (b : Bool) → eqb j i ≡ b → P j
    go true q = let same = eqb-true j i q in rw same here
    go false q = let other = eqb-false j i q in before j (omega arith)

module _ (s : List ℕ) (i : ℕ) {tag : ℕ} (e : tag ≡ be32_at s (16 * i)) where
  pub one_higher : {highest higher : ℕ} → AtMost s i highest → highest ≤ higher → tag ≤ higher → AtMost s (i + 1) higher
  one_higher {highest} {higher} seen l m =
      record {
        each =
            one_more (λ (j : ℕ). be32_at s (16 * j) ≤ higher) i (λ j k. let h = seen.each j k in omega arith) (omega arith);
      }

  pub risen : {last : ℕ} → AtMost s i last → last < tag → AtMost s (i + 1) tag
  risen seen l = one_higher seen (omega arith) (omega arith)

  pub one_marked : {flags after : List ℕ} → Marked s i flags → length flags ≡ 64 → after ≡ marked flags tag
      → Marked s (i + 1) after
  one_marked {flags} seen l p =
      rw p (record {
        each =
            one_more (λ (j : ℕ). is_set (marked flags tag) (be32_at s (16 * j)) ≡ true) i
            (λ j k. set_still flags tag l (be32_at s (16 * j)) (seen.each j k))
            (rw (← e) (set_now flags tag l));
      })

-- a walk over n records: first is what it looks for, the records from i on are left
module _ (s : List ℕ) (n i : ℕ) {first tag : ℕ} (e : tag ≡ be32_at s (16 * i)) (l : i < n)
    (inv : first ≡ first_from (repeated_among s) (n - i) i) where
  repeated : {r : Bool} → r ≡ tag_among s i tag → repeated_among s i ≡ r
  unfolding repeated_among
  repeated q = rw (← e) (sym q)

  pub ends : {r : Bool} → r ≡ tag_among s i tag → r ≡ true → i ≡ first
  ends q h = found (repeated_among s) n i l inv (repeated q ∙ h)

  pub turn : {r : Bool} → r ≡ tag_among s i tag → r ≡ false → first ≡ first_from (repeated_among s) (n - (i + 1)) (i + 1)
  turn q h = next (repeated_among s) n i l inv (repeated q ∙ h)

  pub rise : {last : ℕ} → AtMost s i last → last < tag → first ≡ first_from (repeated_among s) (n - (i + 1)) (i + 1)
  rise seen m = turn refl (sym (above s i tag seen m))

-- two tags in a row that rise above all before them
module _ (s : List ℕ) (i : ℕ) {last one two : ℕ} (a : one ≡ be32_at s (16 * i)) (b : two ≡ be32_at s (16 * (i + 1)))
    (seen : AtMost s i last) (k : last < one) (m : one < two) where
  pub risen_2 : AtMost s (i + 2) two
  risen_2 = let e : i + 1 + 1 ≡ i + 2 = omega arith in rw e at (risen s (i + 1) b (risen s i a seen k) m)

  pub rise_2 : (n : ℕ) {first : ℕ} → 2 ≤ n - i → first ≡ first_from (repeated_among s) (n - i) i
      → first ≡ first_from (repeated_among s) (n - (i + 2)) (i + 2)
  rise_2 n l inv =
      let e : i + 1 + 1 ≡ i + 2 = omega arith in
      let once = rise s n i a (omega arith) inv seen k in
      rw e at (rise s n (i + 1) b (omega arith) once (risen s i a seen k) m)

-- a last tag that rises
pub rise_last : (s : List ℕ) (n i : ℕ) {first last tag : ℕ} → tag ≡ be32_at s (16 * i) → AtMost s i last
    → first ≡ first_from (repeated_among s) (n - i) i → i < n → n - i < 2 → ltb last tag ≡ true → n ≡ first
rise_last s n i {first} {last} {tag} e seen inv l h q =
    let m : last < tag = ltb-true last tag q in
    spent (repeated_among s) n (i + 1) (rise s n i e l inv seen m) (omega arith) (omega arith)

-- the first record
pub alone : (s : List ℕ) {tag : ℕ} → tag ≡ be32_at s 0 → AtMost s 1 tag
alone s {tag} e = one_higher s 0 e (none_over s tag) (omega arith) (omega arith)

pub first_passed : (s : List ℕ) (n : ℕ) → 1 ≤ n → first_from (repeated_among s) n 0 ≡ first_from (repeated_among s) (n - 1) 1
unfolding repeated_among tag_among
first_passed s n l = next (repeated_among s) n 0 l (begun (repeated_among s) n refl) refl

-- nothing is said where no rise was seen
pub untold : {A : Type 0} → false ≡ true → A
untold q = let z : ◌≡◌ {A = ℕ} 0 1 = cc in absurd (omega arith)
