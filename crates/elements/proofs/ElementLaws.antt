-- The elements of an entry lie in a row and are its data, theorems of specs/Theorems: elements_in_a_row,
-- elements_shown_lem. Where one of a fixed size lies: fixed_starts, fixed_extent.
use Prim.Native.Nat.{ℕ, zero, suc, ◌+◌, ◌-◌, ◌*◌, ◌≤◌, ◌<◌}
use mathlib.Core.Path.{◌≡◌, refl, sym, ap, ◌∙◌}
use mathlib.Core.List.{List}
use lib.ListN.{take, drop}
use native.Mathlib.Omega.{arith}
use native.Mathlib.Nat.{mul-add}
use Rattle.strings.specs.Strings.{strings_from}
use Rattle.strings.proofs.StringLaws.{bound, done}
use Rattle.be.proofs.ByteLaws.{part_join}
use Rattle.strings.proofs.RowLaws.{string_at}
use Rattle.format.specs.Places.{section_end}
use Rattle.entries.specs.declared.types.ElementSize.{ElementSize}
use Rattle.entries.specs.declared.types.ElementSize.TheVariants.{Bytes, ToZero}
use Rattle.index.specs.declared.Entry.{Entry}
use Rattle.entries.specs.Types.{element_size}
use Rattle.index.specs.Lookup.{extent_to, entry_at}
use Rattle.structure.specs.Sound.{SoundEntry}
use Rattle.package.specs.Package.{structure_of}
use Rattle.lookups.specs.Lookup.{sought, entry_bytes, sought_bytes}
use Rattle.elements.specs.Elements.{element_of}
use Rattle.elements.specs.Theorems.{elements_from, ElementsInARow, elements_shown, ElementsShown}
use Rattle.lookups.proofs.FoundLaws.{found_of_record, found_sound}
use Rattle.elements.proofs.ElementFound.{element_found}
use Rattle.std.specs.Prelude.{Option, Some, None, Ok}

-- where element k lies from b k to b (k + 1), the elements from k on are the part up to the last
module _ (s : List ℕ) (entry : Entry) (b : ℕ → ℕ)
    (starts : (k : ℕ) → k < entry.count → (element_of s entry k).at.0 ≡ b k)
    (ends : (k : ℕ) → k < entry.count → b k + (element_of s entry k).extent ≡ b (k + 1)) where
  rises : (n k : ℕ) → n + k ≡ entry.count → b k ≤ b entry.count
  rises zero k e = let f : k ≡ entry.count = omega arith in rw f (omega arith)
  rises (suc n) k e = let q = rises n (k + 1) (omega arith) in omega (arith, ends k (omega arith))

  row : (n k : ℕ) → n + k ≡ entry.count → elements_from s entry n k ≡ take (b entry.count - b k) (drop (b k) s)
  unfolding elements_from
  row zero k e =
      let f : k ≡ entry.count = omega arith in
      let g : b entry.count - b entry.count ≡ 0 = omega arith in
      rw (f, g)
  row (suc n) k e =
      let l : k < entry.count = omega arith in
      let x = (element_of s entry k).extent in
      let q = rises n (k + 1) (omega arith) in
      let y = b entry.count - (b k + x) in
      let g : b entry.count - b k ≡ x + y = omega (arith, ends k l) in
      rw (row n (k + 1) (omega arith), starts k l, ← ends k l, g) (part_join s (b k) x y)

  whole : b 0 ≡ entry.at.0 → b entry.count ≡ entry.at.0 + entry.extent
      → elements_from s entry entry.count 0 ≡ entry_bytes s entry
  whole p q =
      let e : b entry.count - b 0 ≡ entry.extent = omega arith in
      row entry.count 0 (omega arith) ∙ rw (e, p)

-- a fixed size
module _ (s : List ℕ) (entry : Entry) (n : ℕ) (p : element_size entry.ty ≡ Some (Bytes n)) where
  pub fixed_starts : (k : ℕ) → (element_of s entry k).at.0 ≡ entry.at.0 + n * k
  unfolding element_of
  fixed_starts k = rw p

  pub fixed_extent : (k : ℕ) → (element_of s entry k).extent ≡ n
  unfolding element_of
  fixed_extent k = rw p

  fixed_row : entry.extent ≡ n * entry.count → elements_from s entry entry.count 0 ≡ entry_bytes s entry
  fixed_row h =
      whole s entry (λ k. entry.at.0 + n * k) (λ k l. fixed_starts k)
      (λ k l. omega (arith, mul-add n k 1, fixed_extent k)) (omega arith) (omega arith)

-- strings
module _ (s : List ℕ) (entry : Entry) (p : element_size entry.ty ≡ Some ToZero)
    (h : strings_from s entry.extent entry.at.0 entry.count ≡ Some (entry.at.0 + entry.extent)) where
  string_starts : (k : ℕ) → k < entry.count
      → (element_of s entry k).at.0 ≡ extent_to 0 (strings_from s entry.extent entry.at.0 k)
  unfolding element_of
  string_starts k l =
      let t = string_at s entry.extent entry.at.0 k entry.count _ l h in
      rw (p, t.2) (omega arith)

  string_ends : (k : ℕ) → k < entry.count
      → extent_to 0 (strings_from s entry.extent entry.at.0 k) + (element_of s entry k).extent
      ≡ extent_to 0 (strings_from s entry.extent entry.at.0 (k + 1))
  unfolding element_of
  string_ends k l =
      let t = string_at s entry.extent entry.at.0 k entry.count _ l h in
      let q = bound _ _ _ _ _ t.4 in
      rw (p, t.2, t.3, t.4) (omega arith)

  string_row : elements_from s entry entry.count 0 ≡ entry_bytes s entry
  string_row =
      whole s entry (λ k. extent_to 0 (strings_from s entry.extent entry.at.0 k)) string_starts string_ends
      (rw (← done s entry.extent entry.at.0 0 refl) (omega arith)) (rw h (omega arith))

-- every lawful type
row_of_size : (s : List ℕ) (len : ℕ) (entry : Entry) → SoundEntry s len entry
    → (size : Option ElementSize) → element_size entry.ty ≡ size
    → elements_from s entry entry.count 0 ≡ entry_bytes s entry
row_of_size s len entry t (Some (Bytes n)) p = fixed_row s entry n p (t.fixed n p)
row_of_size s len entry t (Some ToZero) p = string_row s entry p (t.strings p)
row_of_size s len entry t None p =
    let q = t.lawful in
    let z : ◌≡◌ {A = ℕ} 0 1 = cc in
    absurd (omega arith)

pub elements_in_a_row : ElementsInARow
elements_in_a_row s which tag ty entry h =
    row_of_size s (section_end (structure_of s which)) entry (found_sound s which tag ty entry h)
    (element_size entry.ty) refl

-- what element look-ups show of an entry that was found
module _ (s : List ℕ) (which tag ty : ℕ) (entry : Entry) (h : sought s which tag ty ≡ Ok entry) where
  shown_row : (n k : ℕ) → n + k ≤ entry.count → elements_shown s which tag ty n k ≡ elements_from s entry n k
  unfolding elements_shown elements_from
  shown_row zero k l = refl
  shown_row (suc n) k l = rw (element_found s which tag ty k entry h (omega arith), shown_row n (k + 1) (omega arith))

pub elements_shown_lem : ElementsShown
elements_shown_lem s which tag ty k h r =
    let entry = entry_at s (structure_of s which) k in
    let f = found_of_record s which tag ty h k r in
    shown_row s which tag ty entry f entry.count 0 (omega arith) ∙ elements_in_a_row s which tag ty entry f
    ∙ sym (ap (sought_bytes s) f)
