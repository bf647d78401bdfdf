-- The last one or two blocks: the buffer's first bytes are what is left of the message and the padding, and the blocks of the
-- padded message are the message's whole blocks, then those of the buffer.
-- Assumes nothing.
use mathlib.Core.Path.{◌≡◌, refl, sym, ap, ◌∙◌}
use mathlib.Core.List.{List, ◌∷◌, ◌++◌, append_assoc}
use Prim.Native.Nat.{ℕ, suc, ◌+◌, ◌-◌, ◌*◌, ◌/◌, ◌%◌, ◌^◌}
use native.Mathlib.Omega.{arith}
use lib.ListN.{length, take, drop, set, replicate, length-append, length-drop, length-replicate}
use lib.ListN.{replicate-append-replicate}
use lib.Seq.{take_at, drop_at, set_at, drop-append-le}
use borrow.Rule.Slice.PartMut.{put_mid, Post-is}
use Rattle.std.specs.Int.{w64, to_le_bytes}
use Rattle.words.specs.declared.State.{State}
use Rattle.words.specs.Words.{low_first}
use Rattle.words.proofs.LowFirstLaws.{length_low_first, to_le_bytes_is_8}
use Rattle.rounds.specs.Table.{table}
use Rattle.rounds.specs.Rounds.{blocks}
use Rattle.rounds.proofs.BlockLaws.{blocks_append, blocks_add, blocks_drop}
use Rattle.message_digest.specs.Md5.{padding_bytes, length_bytes, padded, start, output, digest}
use Rattle.message_digest.specs.Ending.{finished}
use Rattle.message_digest.proofs.PaddingLaws.{length_padding, length_padded}

zeros_split : (a b c : ℕ) → c ≡ a + b → replicate {A = ℕ} c 0 ≡ replicate a 0 ++ replicate b 0
zeros_split a b c e = ap (λ (k : ℕ). replicate {A = ℕ} k 0) e ∙ sym (replicate-append-replicate a b 0)

-- r is what is left of a message of n bytes after its whole blocks
module _ (n : ℕ) (r : List ℕ) (left : length r ≡ n % 64) where
  abbrev rest : ℕ
  rest = length r

  -- where the count stands
  abbrev at : ℕ
  at = rest + 1 + (119 - rest) % 64

  -- the buffer before the count is put in
  opened : (l : List ℕ) → l ≡ r → set (l ++ drop rest (replicate 128 0)) rest 128 ≡ r ++ 128 ∷ replicate (127 - rest) 0
  opened l e =
      let one : replicate {A = ℕ} 128 0 ≡ replicate rest 0 ++ 0 ∷ replicate (127 - rest) 0 =
      zeros_split rest (suc (127 - rest)) 128 (omega arith) in
      let two : drop rest (replicate {A = ℕ} 128 0) ≡ 0 ∷ replicate (127 - rest) 0 =
      ap (drop rest) one ∙ drop_at (replicate rest 0) (0 ∷ replicate (127 - rest) 0) rest (length-replicate rest 0) in
      ap (λ (x : List ℕ). set x rest 128) (ap (λ (x : List ℕ). x ++ drop rest (replicate {A = ℕ} 128 0)) e ∙ ap (λ (x : List ℕ). r ++ x) two)
      ∙ set_at r 0 (replicate (127 - rest) 0) 128 rest refl

  front : take at (r ++ 128 ∷ replicate (127 - rest) 0) ≡ r ++ 128 ∷ replicate ((119 - rest) % 64) 0
  front =
      let z = (119 - rest) % 64 in
      let p : List ℕ = r ++ 128 ∷ replicate z 0 in
      let more : List ℕ = replicate (127 - rest - z) 0 in
      ap (λ (x : List ℕ). take at (r ++ 128 ∷ x)) (zeros_split z (127 - rest - z) (127 - rest) (omega arith))
      ∙ ap (take at) (sym (append_assoc r (128 ∷ replicate z 0) more))
      ∙ take_at p more at (length-append r (128 ∷ replicate z 0) ∙ omega (arith, length-replicate {A = ℕ} z 0))

  -- the buffer's first bytes, as `finish` makes them
  pub ended : (l count : List ℕ) → l ≡ r → count ≡ to_le_bytes w64 (n * 8 % 2 ^ 64)
      → take (at + 8) (put_mid at (at + 8 - at) (set (l ++ drop rest (replicate 128 0)) rest 128) count)
      ≡ r ++ (padding_bytes n ++ length_bytes n)
  unfolding padding_bytes length_bytes
  ended l count e counts =
      let z = (119 - rest) % 64 in
      let p : List ℕ = r ++ 128 ∷ replicate z 0 in
      let f : List ℕ = set (l ++ drop rest (replicate 128 0)) rest 128 in
      let behind : List ℕ = drop (at + 8) f in
      let same : count ≡ low_first 8 (8 * n % 2 ^ 64) =
      counts ∙ to_le_bytes_is_8 _ ∙ ap (low_first 8) (omega arith) in
      let put : put_mid at (at + 8 - at) f count ≡ p ++ (count ++ behind) =
      ap (λ (x : List ℕ). take at f ++ (count ++ x)) (Post-is at (at + 8) f (omega arith))
      ∙ ap (λ (x : List ℕ). x ++ (count ++ behind)) (ap (take at) (opened l e) ∙ front) in
      let lp : length (p ++ count) ≡ at + 8 =
      length-append p count ∙ ap (λ (m : ℕ). m + length count) (length-append r (128 ∷ replicate z 0))
      ∙ omega (arith, length-replicate {A = ℕ} z 0, simp length_low_first at (ap length same)) in
      ap (take (at + 8)) (put ∙ sym (append_assoc p count behind))
      ∙ take_at (p ++ count) behind (at + 8) lp
      ∙ append_assoc r (128 ∷ replicate z 0) count
      ∙ ap (λ (x : List ℕ). r ++ 128 ∷ (replicate z 0 ++ x)) same
      ∙ ap (λ (k : ℕ). r ++ 128 ∷ (replicate ((119 - k) % 64) 0 ++ low_first 8 (8 * n % 2 ^ 64))) left

module _ (s : List ℕ) where
  -- how many bytes are left of the message after its whole blocks, where they begin, and how many zeros the padding has
  abbrev over : ℕ
  over = length s % 64

  abbrev from : ℕ
  from = length s - over

  abbrev zeros : ℕ
  zeros = (119 - over) % 64

  -- the padding
  abbrev ending : List ℕ
  ending = padding_bytes (length s) ++ length_bytes (length s)

  length_ending : length (drop from s ++ ending) ≡ over + 1 + zeros + 8
  length_ending = length-append (drop from s) ending ∙ omega (arith, length-drop from s, length_padding (length s))

  pub finished_is : (T r l : List ℕ) (p q : State) → T ≡ table → r ≡ drop from s → l ≡ r ++ ending → p ≡ blocks l T (length l / 64) 0 q
      → p ≡ finished s q
  unfolding finished
  finished_is T r l p q t k e h =
      let n = (over + (9 + zeros)) / 64 in
      let f : l ≡ drop from s ++ ending = e ∙ ap (λ (x : List ℕ). x ++ ending) k in
      let c : length l / 64 ≡ n = omega (arith, ap length f, length_ending) in
      h ∙ ap (λ (x : List ℕ). blocks l x (length l / 64) 0 q) t ∙ ap (λ (k : ℕ). blocks l table k 0 q) c
      ∙ ap (λ (x : List ℕ). blocks x table n 0 q) f

  -- the padded message's blocks: the message's whole blocks, then those of what is left and the padding
  whole_then_rest : (q : State)
      → blocks (padded s) table (length (padded s) / 64) 0 q ≡ finished s (blocks s table (length s / 64) 0 q)
  unfolding padded finished
  whole_then_rest q =
      let n = length s / 64 in
      let m = (over + (9 + zeros)) / 64 in
      let c : length (s ++ ending) / 64 ≡ n + m = omega (arith, length_padded s) in
      let f : 0 + 64 * n ≡ from + 0 = omega arith in
      ap (λ (k : ℕ). blocks (s ++ ending) table k 0 q) c
      ∙ blocks_add (s ++ ending) table n m 0 q
      ∙ ap (λ (k : ℕ). blocks (s ++ ending) table m k (blocks (s ++ ending) table n 0 q)) f
      ∙ blocks_drop (s ++ ending) table m from 0 (blocks (s ++ ending) table n 0 q)
      ∙ ap (λ (r : State). blocks (drop from (s ++ ending)) table m 0 r) (blocks_append s table ending n 0 q (omega arith))
      ∙ ap (λ (l : List ℕ). blocks l table m 0 (blocks s table n 0 q)) (drop-append-le from s ending (omega arith))

  pub digest_is : (T r : List ℕ) (w p : State) → T ≡ table → w ≡ blocks s T (length s / 64) 0 start → p ≡ finished s w
      → r ≡ output p → r ≡ digest s
  unfolding digest
  digest_is T r w p t hw hp hr =
      let first : w ≡ blocks s table (length s / 64) 0 start =
      hw ∙ ap (λ (x : List ℕ). blocks s x (length s / 64) 0 start) t in
      hr ∙ ap output (hp ∙ ap (finished s) first ∙ sym (whole_then_rest start))
