-- Document 02, request 6: its examples and others, as one list that computes. Each is right both ways round.
use Rattle.std.specs.Prelude.{ℕ, List, [], ◌∷◌, Bool, true, false, ◌&&◌, T}
use Rattle.std.specs.declared.cmp.Ordering.{Ordering}
use Rattle.std.specs.declared.cmp.Ordering.TheVariants.{Less, Equal, Greater}
use Rattle.std.specs.Ordering.{ordering_reverse}
use Rattle.version.specs.Version.{by_text}

-- a left text, a right text, and how the left one stands to the right one
pub record Example : Type 0 where
  pub left : List ℕ
  pub right : List ℕ
  pub order : Ordering

abbrev pub example : List ℕ → List ℕ → Ordering → Example
example left right order = record { left = left; right = right; order = order }

abbrev pub examples : List Example
examples =
    -- the request's own: 1.0, 1_0 and 1.00 are the same; 1 is older than 1.a, and 1.a than 1.1
    example (49 ∷ 46 ∷ 48 ∷ []) (49 ∷ 95 ∷ 48 ∷ []) Equal
    ∷ example (49 ∷ 46 ∷ 48 ∷ []) (49 ∷ 46 ∷ 48 ∷ 48 ∷ []) Equal
    ∷ example (49 ∷ 95 ∷ 48 ∷ []) (49 ∷ 46 ∷ 48 ∷ 48 ∷ []) Equal
    ∷ example (49 ∷ []) (49 ∷ 46 ∷ 97 ∷ []) Less
    ∷ example (49 ∷ 46 ∷ 97 ∷ []) (49 ∷ 46 ∷ 49 ∷ []) Less
    -- a missing run is lowest, then letters, then digits: nothing, a, 0
    ∷ example ([]) ([]) Equal
    ∷ example ([]) (97 ∷ []) Less
    ∷ example (97 ∷ []) (48 ∷ []) Less
    ∷ example ([]) (48 ∷ []) Less
    -- digits by value: 9 and 10, 007 and 7, 2^64 and 0
    ∷ example (57 ∷ []) (49 ∷ 48 ∷ []) Less
    ∷ example (48 ∷ 48 ∷ 55 ∷ []) (55 ∷ []) Equal
    ∷ example (49 ∷ 56 ∷ 52 ∷ 52 ∷ 54 ∷ 55 ∷ 52 ∷ 52 ∷ 48 ∷ 55 ∷ 51 ∷ 55 ∷ 48 ∷ 57 ∷ 53 ∷ 53 ∷ 49 ∷ 54 ∷ 49 ∷ 54 ∷ []) (48 ∷ []) Greater
    -- letters by bytes, a prefix first: Z and a, a and ab, ab and b
    ∷ example (90 ∷ []) (97 ∷ []) Less
    ∷ example (97 ∷ []) (97 ∷ 98 ∷ []) Less
    ∷ example (97 ∷ 98 ∷ []) (98 ∷ []) Less
    -- runs are the longest: 1.1 and 11, 1a and 1.a, a1 and a-1
    ∷ example (49 ∷ 46 ∷ 49 ∷ []) (49 ∷ 49 ∷ []) Less
    ∷ example (49 ∷ 97 ∷ []) (49 ∷ 46 ∷ 97 ∷ []) Equal
    ∷ example (97 ∷ 49 ∷ []) (97 ∷ 45 ∷ 49 ∷ []) Equal
    -- all else only separates: ~, ^, a zero byte, bytes above 127, and those beside the letters and the digits
    ∷ example (49 ∷ 126 ∷ []) (49 ∷ []) Equal
    ∷ example (49 ∷ 94 ∷ 50 ∷ []) (49 ∷ 46 ∷ 50 ∷ []) Equal
    ∷ example (49 ∷ 0 ∷ []) (49 ∷ []) Equal
    ∷ example (49 ∷ 195 ∷ 169 ∷ []) (49 ∷ []) Equal
    ∷ example (47 ∷ 58 ∷ 64 ∷ 91 ∷ 96 ∷ 123 ∷ []) ([]) Equal
    ∷ []

abbrev pub is_order : Ordering → Ordering → Bool
is_order Less Less = true
is_order Less Equal = false
is_order Less Greater = false
is_order Equal Less = false
is_order Equal Equal = true
is_order Equal Greater = false
is_order Greater Less = false
is_order Greater Equal = false
is_order Greater Greater = true

abbrev pub is_right : Example → Bool
is_right e = is_order (by_text e.left e.right) e.order && is_order (by_text e.right e.left) (ordering_reverse e.order)

abbrev pub all_right : List Example → Bool
all_right [] = true
all_right (e ∷ rest) = is_right e && all_right rest

abbrev pub ExamplesRight : Type 0
ExamplesRight = T (all_right examples)
