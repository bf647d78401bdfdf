-- RFC 1321, section 2, and the four auxiliary functions of 3.4. A word is a number of 32 bits.
use Rattle.std.specs.Prelude.{ℕ, zero, suc, ◌+◌, ◌-◌, ◌*◌, ◌/◌, ◌%◌, ◌^◌, List, [], ◌∷◌, bit_and, bit_or, bit_xor, slice_index}
use Rattle.words.specs.declared.State.{State}
use Rattle.words.specs.declared.Round.{Round}
use Rattle.words.specs.declared.Round.TheVariants.{One, Two, Three, Four}

-- 2: bytes are words, "each consecutive group of four bytes" one, "with the low-order (least significant) byte given first":
-- word k of some bytes
unfoldable pub word_at : List ℕ → ℕ → ℕ
word_at bytes k =
    slice_index bytes (4 * k) + 256 * slice_index bytes (4 * k + 1) + 256 ^ 2 * slice_index bytes (4 * k + 2) + 256 ^ 3 * slice_index bytes (4 * k + 3)

-- a number as so many bytes, the low-order byte first
unfoldable pub low_first : ℕ → ℕ → List ℕ
low_first zero x = []
low_first (suc n) x = x % 256 ∷ low_first n (x / 256)

-- 2: "addition of words (i.e., modulo-2^32 addition)"
abbrev pub plus : ℕ → ℕ → ℕ
plus x y = (x + y) % 2 ^ 32

-- 2: X <<< s, "circularly shifting (rotating) X left by s bit positions"
unfoldable pub rotated : ℕ → ℕ → ℕ
rotated x s = bit_or (x * 2 ^ s % 2 ^ 32) (x / 2 ^ (32 - s))

-- 2: not(X), "the bit-wise complement"
abbrev pub complement : ℕ → ℕ
complement x = 2 ^ 32 - 1 - x

-- 3.4: F(X,Y,Z) = XY v not(X) Z
--      G(X,Y,Z) = XZ v Y not(Z)
--      H(X,Y,Z) = X xor Y xor Z
--      I(X,Y,Z) = Y xor (X v not(Z))
-- the function of each round
unfoldable pub auxiliary : Round → ℕ → ℕ → ℕ → ℕ
auxiliary One x y z = bit_or (bit_and x y) (bit_and (complement x) z)
auxiliary Two x y z = bit_or (bit_and x z) (bit_and y (complement z))
auxiliary Three x y z = bit_xor (bit_xor x y) z
auxiliary Four x y z = bit_xor y (bit_or x (complement z))

-- 3.4: "increment each of the four registers by the value it had before this block was started"
unfoldable pub increased : State → State → State
increased before q =
    record {
      a = plus q.a before.a;
      b = plus q.b before.b;
      c = plus q.c before.c;
      d = plus q.d before.d;
    }
