-- A fixed element size is 1 to 4: bytes_small.
use Prim.Native.Nat.{ℕ, ◌≤◌}
use mathlib.Core.Path.{◌≡◌}
use mathlib.Core.Bool.{Bool, true, false, cond, ◌||◌}
use lib.Dec.{eqb}
use native.Mathlib.Omega.{arith}
use Rattle.entries.specs.declared.types.ElementSize.TheVariants.{Bytes, ToZero}
use Rattle.entries.specs.Types.{element_size}
use Rattle.std.specs.Prelude.{Some, None}

small : (a b c d : Bool) (n : ℕ) → cond a (Some (Bytes 1)) (cond b (Some (Bytes 2)) (cond c (Some (Bytes 4)) (cond d (Some ToZero) None))) ≡ Some (Bytes n)
    → (1 ≤ n) × (n ≤ 4)
small true b c d n h = let e : n ≡ 1 = cc in omega arith
small false true c d n h = let e : n ≡ 2 = cc in omega arith
small false false true d n h = let e : n ≡ 4 = cc in omega arith
small false false false true n h = let e : ◌≡◌ {A = ℕ} 0 1 = cc in omega arith
small false false false false n h = let e : ◌≡◌ {A = ℕ} 0 1 = cc in omega arith

pub bytes_small : (ty n : ℕ) → element_size ty ≡ Some (Bytes n) → (1 ≤ n) × (n ≤ 4)
unfolding element_size
bytes_small ty n h =
    small (eqb ty 1 || eqb ty 2 || eqb ty 7) (eqb ty 3) (eqb ty 4) (eqb ty 6 || eqb ty 8 || eqb ty 9) n h
