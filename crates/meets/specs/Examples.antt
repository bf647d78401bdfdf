-- Document 02, request 6: the flags in all their combinations, as one list that computes. Bit 0 and bits above 3 don't count.
use Rattle.std.specs.Prelude.{ℕ, List, [], ◌∷◌, Bool, true, false, ◌&&◌, not, T}
use Rattle.std.specs.declared.cmp.Ordering.TheVariants as order
use Rattle.meets.specs.Meets.{meets_by}

-- flags, and whether an older, the same and a newer text meet them
pub record Example : Type 0 where
  pub flags : ℕ
  pub older : Bool
  pub same : Bool
  pub newer : Bool

abbrev pub example : ℕ → Bool → Bool → Bool → Example
example flags older same newer = record { flags = flags; older = older; same = same; newer = newer }

-- none, <, >, < or >, =, <=, >=, all three; then bit 0 alone, <= as rpm flags a feature of its own, and all other bits, alone and
-- with <
abbrev pub examples : List Example
examples =
    example 0 true true true
    ∷ example 2 true false false
    ∷ example 4 false false true
    ∷ example 6 true false true
    ∷ example 8 false true false
    ∷ example 0xa true true false
    ∷ example 0xc false true true
    ∷ example 0xe true true true
    ∷ example 0x1 true true true
    ∷ example 0x0100000A true true false
    ∷ example 0xFFFFFFF1 true true true
    ∷ example 0xFFFFFFF3 true false false
    ∷ []

abbrev pub agree : Bool → Bool → Bool
agree true b = b
agree false b = not b

abbrev pub is_right : Example → Bool
is_right e =
    agree (meets_by e.flags order.Less) e.older && agree (meets_by e.flags order.Equal) e.same
    && agree (meets_by e.flags order.Greater) e.newer

abbrev pub all_right : List Example → Bool
all_right [] = true
all_right (e ∷ rest) = is_right e && all_right rest

abbrev pub ExamplesRight : Type 0
ExamplesRight = T (all_right examples)
