-- An element that is a string: it starts where the strings before it end (strings_before), and is a single string
-- (string_single): its text, and its zero byte (string_split).
use Prim.Native.Nat.{ℕ, suc, ◌+◌, ◌-◌, ◌≤◌, ◌<◌}
use mathlib.Core.Path.{◌≡◌}
use mathlib.Core.List.{List, [], ◌∷◌, ◌++◌}
use lib.ListN.{length, take, drop, length-take, length-drop}
use lib.Seq.{take-suc, get_or-take, get_or-drop}
use native.Mathlib.Omega.{arith}
use Rattle.strings.specs.Strings.{strings_from}
use Rattle.strings.proofs.StringLaws.{bound, positive, tight}
use Rattle.strings.proofs.RowLaws.{string_at, single_ends, single_text}
use Rattle.entries.specs.declared.types.ElementSize.TheVariants.{ToZero}
use Rattle.index.specs.declared.Entry.{Entry}
use Rattle.entries.specs.Types.{element_size}
use Rattle.lookups.specs.Lookup.{entry_bytes}
use Rattle.elements.specs.Elements.{element_of}
use Rattle.elements.specs.Theorems.{SingleString}
use Rattle.std.specs.Prelude.{Some}

-- the bytes of a single string
module _ (s : List ℕ) (room at e : ℕ) (h : strings_from s room at 1 ≡ Some e) (fits : e ≤ length s) where
  text_size : e - at ≡ suc (e - 1 - at)
  text_size = let l = positive s room at 1 e h (omega arith) in omega arith

  single_split : take (e - at) (drop at s) ≡ take (e - 1 - at) (drop at s) ++ (0 ∷ [])
  single_split =
      let l = positive s room at 1 e h (omega arith) in
      let q : e - 1 - at < length (drop at s) = simp length-drop (omega arith) in
      let v : at + (e - 1 - at) ≡ e - 1 = omega arith in
      rw (text_size, take-suc (drop at s) (e - 1 - at) 0 q, get_or-drop at s (e - 1 - at) 0, v, single_ends s room at e h)

  single_string : SingleString (take (e - at) (drop at s))
  single_string =
      record {
        text = take (e - 1 - at) (drop at s);
        ended = single_split;
        nonzero = λ i l q.
            let b : i < e - 1 - at = omega (arith, length-take (e - 1 - at) (drop at s)) in
            single_text s room at e h i (omega arith)
            (rw (get_or-take (e - 1 - at) (drop at s) i 0 b, get_or-drop at s i 0) at q);
      }

module _ (s : List ℕ) (entry : Entry) (k : ℕ) (p : element_size entry.ty ≡ Some ToZero) where
  string_starts : (m : ℕ) → strings_from s entry.extent entry.at.0 k ≡ Some m → m ≡ (element_of s entry k).at.0
  unfolding element_of
  string_starts m h = rw (p, h)

  string_bytes : (m m' : ℕ) → strings_from s entry.extent entry.at.0 k ≡ Some m
      → strings_from s (entry.at.0 + entry.extent - m) m 1 ≡ Some m'
      → take (m' - m) (drop m s) ≡ entry_bytes s (element_of s entry k)
  unfolding element_of
  string_bytes m m' h q = rw (p, h, q)

  string_extent : (m m' : ℕ) → strings_from s entry.extent entry.at.0 k ≡ Some m
      → strings_from s (entry.at.0 + entry.extent - m) m 1 ≡ Some m' → m' - m ≡ (element_of s entry k).extent
  unfolding element_of
  string_extent m m' h q = rw (p, h, q)

  module _ (l : k < entry.count)
      (h : strings_from s entry.extent entry.at.0 entry.count ≡ Some (entry.at.0 + entry.extent)) where
    pub strings_before :
        strings_from s ((element_of s entry k).at.0 - entry.at.0) entry.at.0 k ≡ Some (element_of s entry k).at.0
    strings_before =
        let r = string_at s entry.extent entry.at.0 k entry.count _ l h in
        rw (← string_starts r.0 r.2) (tight s entry.extent entry.at.0 k r.0 r.2)

    pub string_single : entry.at.0 + entry.extent ≤ length s → SingleString (entry_bytes s (element_of s entry k))
    string_single fits =
        let r = string_at s entry.extent entry.at.0 k entry.count _ l h in
        let b = bound s entry.extent entry.at.0 (k + 1) r.1 r.3 in
        rw (← string_bytes r.0 r.1 r.2 r.4) (single_string s _ r.0 r.1 r.4 (omega arith))

    -- its text, and its zero byte
    pub string_split : entry.at.0 + entry.extent ≤ length s
        → entry_bytes s (element_of s entry k)
        ≡ take ((element_of s entry k).extent - 1) (drop (element_of s entry k).at.0 s) ++ (0 ∷ [])
    string_split fits =
        let r = string_at s entry.extent entry.at.0 k entry.count _ l h in
        let b = bound s entry.extent entry.at.0 (k + 1) r.1 r.3 in
        let w : r.1 - r.0 - 1 ≡ r.1 - 1 - r.0 = omega arith in
        rw (← string_starts r.0 r.2, ← string_extent r.0 r.1 r.2 r.4, w)
        (single_split s _ r.0 r.1 r.4 (omega arith))
