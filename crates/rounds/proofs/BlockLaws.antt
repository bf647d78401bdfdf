-- Blocks of a message, one after the other: blocks of a front, in two runs, and from a place on; one more turn of the loop
-- over them, and its end.
-- Assumes nothing.
use mathlib.Core.Path.{◌≡◌, refl, sym, ap, ◌∙◌}
use mathlib.Core.List.{List, ◌++◌}
use Prim.Native.Nat.{ℕ, zero, suc, ◌+◌, ◌*◌, ◌/◌, ◌<◌, ◌≤◌}
use native.Mathlib.Nat.{zero-add, add_assoc}
use native.Mathlib.Omega.{arith}
use lib.ListN.{length, take, drop, length-drop, length-append}
use lib.Seq.{drop-append-le, take-append-le, drop-drop, take_at, drop_at}
use Rattle.words.specs.declared.State.{State}
use Rattle.rounds.specs.Rounds.{block, blocks}

module _ (s T : List ℕ) where
  pub blocks_append : (rest : List ℕ) (n at : ℕ) (q : State) → at + 64 * n ≤ length s
      → blocks (s ++ rest) T n at q ≡ blocks s T n at q
  unfolding blocks
  blocks_append rest zero at q h = refl
  blocks_append rest (suc n) at q h =
      let d : drop at (s ++ rest) ≡ drop at s ++ rest = drop-append-le at s rest (omega arith) in
      let t : take 64 (drop at s ++ rest) ≡ take 64 (drop at s) =
      take-append-le 64 (drop at s) rest (simp length-drop (omega arith)) in
      blocks_append rest n (at + 64) (block (take 64 (drop at (s ++ rest))) T q) (omega arith)
      ∙ ap (λ (l : List ℕ). blocks s T n (at + 64) (block l T q)) (ap (take 64) d ∙ t)

  pub blocks_add : (n m at : ℕ) (q : State) → blocks s T (n + m) at q ≡ blocks s T m (at + 64 * n) (blocks s T n at q)
  unfolding blocks
  blocks_add zero m at q =
      let e : at ≡ at + 64 * 0 = omega arith in
      ap (λ (k : ℕ). blocks s T k at q) (zero-add m) ∙ ap (λ (k : ℕ). blocks s T m k q) e
  blocks_add (suc n) m at q =
      let e : suc n + m ≡ suc (n + m) = omega arith in
      let f : at + 64 + 64 * n ≡ at + 64 * suc n = omega arith in
      ap (λ (k : ℕ). blocks s T k at q) e ∙ blocks_add n m (at + 64) (block (take 64 (drop at s)) T q)
      ∙ ap (λ (k : ℕ). blocks s T m k (blocks s T n (at + 64) (block (take 64 (drop at s)) T q))) f

  pub blocks_drop : (n from at : ℕ) (q : State) → blocks s T n (from + at) q ≡ blocks (drop from s) T n at q
  unfolding blocks
  blocks_drop zero from at q = refl
  blocks_drop (suc n) from at q =
      ap (λ (k : ℕ). blocks s T n k (block (take 64 (drop (from + at) s)) T q)) (add_assoc from at 64)
      ∙ blocks_drop n from (at + 64) (block (take 64 (drop (from + at) s)) T q)
      ∙ ap (λ (l : List ℕ). blocks (drop from s) T n (at + 64) (block (take 64 l) T q)) (sym (drop-drop at from s))

module _ (T : List ℕ) where
  -- a block comes off the front
  pub next_block : (part rest all : List ℕ) (q p goal : State) → goal ≡ blocks all T (length all / 64) 0 q
      → (all ≡ part ++ rest) × (length part ≡ 64) → p ≡ block part T q → goal ≡ blocks rest T (length rest / 64) 0 p
  unfolding blocks
  next_block part rest all q p goal inv h e =
      let n = length rest / 64 in
      let k : length all / 64 ≡ suc n = omega (arith, ap length h.0, length-append part rest, h.1) in
      let front : take 64 all ≡ part = ap (take 64) h.0 ∙ take_at part rest 64 h.1 in
      let behind : drop 64 all ≡ rest = ap (drop 64) h.0 ∙ drop_at part rest 64 h.1 in
      inv ∙ ap (λ (m : ℕ). blocks all T m 0 q) k
      ∙ ap (λ (l : List ℕ). blocks all T n 64 (block l T q)) front
      ∙ blocks_drop all T n 64 0 (block part T q)
      ∙ ap (λ (l : List ℕ). blocks l T n 0 (block part T q)) behind
      ∙ ap (blocks rest T n 0) (sym e)

  pub last_block : (rest : List ℕ) (q goal : State) → length rest < 64 → goal ≡ blocks rest T (length rest / 64) 0 q → q ≡ goal
  unfolding blocks
  last_block rest q goal h inv =
      let k : length rest / 64 ≡ 0 = omega arith in
      sym (inv ∙ ap (λ (m : ℕ). blocks rest T m 0 q) k)
