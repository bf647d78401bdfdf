-- Numbers behind the end of a list: be16_past, be32_past. Parts: part_join, length_part. A number behind a place, and the
-- first of a part: be32_drop, be32_part.
use Prim.Native.Nat.{ℕ, ◌+◌, ◌≤◌, ◌<◌}
use mathlib.Core.Path.{◌≡◌, ◌∙◌}
use mathlib.Core.List.{List, ◌++◌}
use lib.ListN.{length, get_or, take, drop, length-take, length-drop, get_or-eq_default}
use lib.Seq.{take-add, drop-drop, get_or-take, get_or-drop}
use native.Mathlib.Omega.{arith}
use native.Mathlib.Nat.{add_assoc}
use Rattle.be.specs.Numbers.{be16_at, be32_at}

get_d_past : (s : List ℕ) (at k : ℕ) → length s ≤ at → get_or s (at + k) 0 ≡ 0
get_d_past s at k h = get_or-eq_default s 0 (omega arith)

pub be16_past : (s : List ℕ) (at : ℕ) → length s ≤ at → 0 ≡ be16_at s at
unfolding be16_at
be16_past s at h = rw (get_or-eq_default s 0 h, get_d_past s at 1 h)

pub be32_past : (s : List ℕ) (at : ℕ) → length s ≤ at → 0 ≡ be32_at s at
unfolding be32_at
be32_past s at h = rw (get_or-eq_default s 0 h, get_d_past s at 1 h, get_d_past s at 2 h, get_d_past s at 3 h)

-- a part and the part behind it
pub part_join : (s : List ℕ) (from a b : ℕ)
    → take a (drop from s) ++ take b (drop (from + a) s) ≡ take (a + b) (drop from s)
part_join s from a b = rw (take-add a b (drop from s), drop-drop a from s)

pub length_part : (s : List ℕ) (from extent : ℕ) → from + extent ≤ length s
    → length (take extent (drop from s)) ≡ extent
length_part s from extent h = simp (length-take, length-drop) (omega arith)

-- a number of the bytes from a place on
pub be32_drop : (s : List ℕ) (from at : ℕ) → be32_at (drop from s) at ≡ be32_at s (from + at)
unfolding be32_at
be32_drop s from at = simp (get_or-drop, add_assoc)

-- the number that a part begins with
pub be32_part : (s : List ℕ) (at n : ℕ) → 4 ≤ n → be32_at (take n (drop at s)) 0 ≡ be32_at s at
unfolding be32_at
be32_part s at n l = cc (byte 0 (omega arith), byte 1 (omega arith), byte 2 (omega arith), byte 3 (omega arith), first)
  where
    byte : (k : ℕ) → k < 4 → get_or (take n (drop at s)) k 0 ≡ get_or s (at + k) 0
    byte k m = get_or-take n (drop at s) k 0 (omega arith) ∙ get_or-drop at s k 0

    first : at + 0 ≡ at
    first = omega arith
