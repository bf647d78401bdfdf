-- A rotation to the left by less than 32, as `rotate_left` makes it.
-- Assumes nothing.
use Rattle.std.proofs.Common.{◌≡◌, ℕ, zero, suc, ◌-◌, ◌*◌, ◌/◌, ◌%◌, ◌^◌, ◌<◌, sym, arith}
use Rattle.std.specs.Int.{w32, rotate_left}
use lib.Bits.{or_self, or_zero_r}
use Rattle.words.specs.Words.{rotated}

pub rotate_left_is : (x s : ℕ) → x < 2 ^ 32 → s < 32 → rotate_left w32 x s ≡ rotated x s
unfolding rotated
rotate_left_is x zero hx hs =
    let up : x * 2 ^ 0 % 2 ^ 32 ≡ x = omega arith in
    let down : x / 2 ^ 0 ≡ x = omega arith in
    let over : x / 2 ^ 32 ≡ 0 = omega arith in
    rw (up, down, over, or_self) (sym (or_zero_r x))
rotate_left_is x (suc s) hx hs =
    let up : suc s % 32 ≡ suc s = omega arith in
    let down : (32 - suc s) % 32 ≡ 32 - suc s = omega arith in
    rw (up, down)
