-- A turn of the search for the first record with a tag: one by one (ends, turn), and four at a time, by the tags (turn_4) or by
-- their last bytes (turn_low_4).
use Prim.Native.Nat.{ℕ, ◌+◌, ◌-◌, ◌*◌, ◌%◌, ◌≤◌, ◌<◌}
use mathlib.Core.Path.{◌≡◌, refl, sym, ◌∙◌}
use mathlib.Core.List.{List}
use mathlib.Core.Bool.{Bool, false}
use lib.ListN.{get_or, drop}
use lib.Dec.{eqb}
use native.Mathlib.Omega.{arith}
use borrow.Author.Tests.{eq-eqb, ne_eqb}
use Rattle.be.specs.Numbers.{be32_at}
use Rattle.among.specs.Among.{has_tag, low_among, tag_among, first_from}
use Rattle.among.proofs.AmongLaws.{none_of_4, no_tag}
use Rattle.among.proofs.FirstLaws as first

-- v is what is looked for, the records from i on are left
module _ (s : List ℕ) (tag n i : ℕ) {v : ℕ} (inv : v ≡ first_from (has_tag s tag) (n - i) i) where
  module _ {r : ℕ} (e : r ≡ be32_at s (16 * i)) (l : i < n) where
    pub ends : r ≡ tag → i ≡ v
    unfolding has_tag
    ends h = first.found (has_tag s tag) n i l inv (rw (← e) (eq-eqb r tag h))

    pub turn : (r ≡ tag → ⊥) → v ≡ first_from (has_tag s tag) (n - (i + 1)) (i + 1)
    unfolding has_tag
    turn h = first.next (has_tag s tag) n i l inv (rw (← e) (ne_eqb r tag h))

  apart : (k m : ℕ) → k ≡ 16 * i + m → eqb (be32_at s (16 * i + m)) tag ≡ false → eqb (be32_at s k) tag ≡ false
  apart k m e h = rw e h

  pub turn_4 : {r : Bool} → r ≡ tag_among (drop (16 * i) s) 4 tag → r ≡ false → 4 ≤ n - i
      → v ≡ first_from (has_tag s tag) (n - (i + 4)) (i + 4)
  unfolding has_tag
  turn_4 q h l =
      let none = none_of_4 s (16 * i) tag (sym q ∙ h) in
      first.next_4 (has_tag s tag) n i l inv
      (apart (16 * i) 0 (omega arith) none.1.1.1)
      (apart (16 * (i + 1)) 16 (omega arith) none.1.1.0)
      (apart (16 * (i + 2)) 32 (omega arith) none.1.0)
      (apart (16 * (i + 3)) 48 (omega arith) none.0)

  pub turn_low_4 : {low : ℕ} {r : Bool} → low ≡ tag % 256 → ((m : ℕ) → get_or s m 0 < 256) → r ≡ low_among s (16 * i) low
      → r ≡ false → 4 ≤ n - i → v ≡ first_from (has_tag s tag) (n - (i + 4)) (i + 4)
  turn_low_4 {low} m b p h l = turn_4 refl (no_tag s (16 * i) tag low m b (sym p ∙ h)) l
