-- Where data goes: the three ways of offset_for (offset_two, offset_four, offset_one).
use Prim.Native.Nat.{ℕ, ◌+◌, ◌*◌, ◌/◌, ◌%◌, ◌≤◌, ◌<◌}
use mathlib.Core.Path.{◌≡◌, refl}
use mathlib.Core.Bool.{Bool, true, false, cond, ◌||◌}
use lib.Dec.{eqb}
use native.Mathlib.Omega.{arith}
use borrow.Author.Tests.{ne_eqb}
use Rattle.entries.specs.declared.types.ElementSize.TheVariants.{Bytes, ToZero}
use Rattle.entries.specs.Types.{element_size}
use Rattle.layout.specs.Layout.{align_for, offset_for}
use Rattle.std.specs.Prelude.{Some, None}

two : (ty at : ℕ) → ty ≡ 3 → (at + 1) / 2 * 2 ≡ offset_for ty at
unfolding offset_for element_size
two ty at h = rw h

pub offset_two : (ty at : ℕ) {r : ℕ} → ty ≡ 3 → at ≤ r → r < at + 2 → r % 2 ≡ 0
    → (r ≡ offset_for ty at) × (at ≤ r) × (r ≤ at + 3)
offset_two ty at h l m q = let k = two ty at h in (omega arith, l, omega arith)

four : (ty at : ℕ) → ty ≡ 4 → (at + 3) / 4 * 4 ≡ offset_for ty at
unfolding offset_for element_size
four ty at h = rw h

pub offset_four : (ty at : ℕ) {r : ℕ} → ty ≡ 4 → at ≤ r → r < at + 4 → r % 4 ≡ 0
    → (r ≡ offset_for ty at) × (at ≤ r) × (r ≤ at + 3)
offset_four ty at h l m q = let k = four ty at h in (omega arith, l, omega arith)

others : (a d : Bool) (at : ℕ) → at ≡ align_for (cond a (Some (Bytes 1)) (cond d (Some ToZero) None)) at
others true d at = omega arith
others false true at = refl
others false false at = refl

one : (ty at : ℕ) → (ty ≡ 3 → ⊥) → (ty ≡ 4 → ⊥) → at ≡ offset_for ty at
unfolding offset_for element_size
one ty at h k =
    rw (ne_eqb ty 3 h, ne_eqb ty 4 k) (others (eqb ty 1 || eqb ty 2 || eqb ty 7) (eqb ty 6 || eqb ty 8 || eqb ty 9) at)

pub offset_one : (ty at : ℕ) → (ty ≡ 3 → ⊥) → (ty ≡ 4 → ⊥) → (at ≡ offset_for ty at) × (at ≤ at) × (at ≤ at + 3)
offset_one ty at h k = (one ty at h k, omega arith, omega arith)
