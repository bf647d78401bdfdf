-- Elements of an entry as parts of the package, for each way through the functions that make them; where they start.
use Prim.Native.Nat.{ℕ, ◌+◌, ◌-◌, ◌*◌, ◌^◌, ◌≤◌, ◌<◌}
use mathlib.Core.Path.{◌≡◌, refl, sym, ◌∙◌}
use mathlib.Core.List.{List}
use mathlib.Core.Bool.{Bool, true, false, cond}
use lib.ListN.{length}
use lib.Dec.{ltb}
use mir.Syntax.{w32}
use mir.Val.{Fits}
use native.Mathlib.Omega.{arith}
use native.Mathlib.Nat.{mul-le-mul_left}
use borrow.Author.Tests.{le-leb, ltb-true}
use Rattle.strings.specs.Strings.{strings_from}
use Rattle.strings.proofs.StringLaws.{bound}
use Rattle.places.specs.declared.FileOffset.{FileOffset}
use Rattle.format.specs.Sizes.{package_limit}
use Rattle.places.specs.Behind.{behind}
use Rattle.places.proofs.BehindLaws.{near}
use Rattle.entries.specs.declared.types.ElementSize.{ElementSize}
use Rattle.entries.specs.declared.types.ElementSize.TheVariants.{Bytes, ToZero}
use Rattle.index.specs.declared.Entry.{Entry}
use Rattle.entries.specs.Types.{element_size}
use Rattle.entries.proofs.EntryLaws.{product}
use Rattle.index.specs.Lookup.{extent_to}
use Rattle.structure.specs.Sound.{SoundEntry}
use Rattle.lookups.specs.Lookup.{sought}
use Rattle.elements.specs.Elements.{string_part, element_for, element_of, element_in, element_as, sought_element}
use Rattle.lookups.proofs.SeekLaws.{sought_sound}
use Rattle.std.specs.Prelude.{Option, Some, None, Result, Ok, Err}
use Rattle.format.specs.Verdicts.{refusal}
use Rattle.format.specs.declared.verdict.Refusal.{Refusal}

-- a single string, by where the run of the k before it ended
module _ (s : List ℕ) (entry : Entry) (k : ℕ) (b : entry.at.0 + entry.extent ≤ package_limit) {end : ℕ} {run : Option ℕ}
    (d : end ≡ behind entry.at.0 entry.extent) (q : run ≡ strings_from s (end - entry.at.0) entry.at.0 k) where
  ended : end ≡ entry.at.0 + entry.extent
  ended = near entry.at.0 entry.extent d (omega arith)

  before : run ≡ strings_from s entry.extent entry.at.0 k
  before =
      let e = ended in
      let m : end - entry.at.0 ≡ entry.extent = omega arith in
      rw m at q

  module _ {from : ℕ} (h : run ≡ Some from) where
    placed : {n place : ℕ} → n ≡ extent_to entry.at.0 run → place ≡ behind entry.at.0 n → place ≡ from
    placed {n} {place} p r =
        let l = bound s entry.extent entry.at.0 k from (sym before ∙ h) in
        let m : n ≡ from - entry.at.0 = p ∙ rw h in
        let g : place ≡ entry.at.0 + n = near entry.at.0 n r (omega arith) in
        omega (arith, l)

    pub part_ends : {n extent : ℕ} {place : FileOffset} {next : Option ℕ} → n ≡ extent_to entry.at.0 run
        → place.0 ≡ behind entry.at.0 n → next ≡ strings_from s (end - place.0) place.0 1
        → extent ≡ extent_to place.0 next
        → ◌≡◌ {A = Entry} (record { ty = entry.ty; count = 1; at = place; extent = extent })
        (string_part s entry (strings_from s entry.extent entry.at.0 k))
    part_ends p r f g = rw (← before, h, g, f, placed p r, ended)

  pub part_open : run ≡ None
      → ◌≡◌ {A = Entry} (record { ty = entry.ty; count = 1; at = entry.at; extent = 0 })
      (string_part s entry (strings_from s entry.extent entry.at.0 k))
  part_open h = rw (← before, h)

-- an element, by the element size that was found
module _ (s : List ℕ) (entry : Entry) (k : ℕ) {size : Option ElementSize} (p : size ≡ element_size entry.ty) where
  pub element_fixed : {n : ℕ} {place : FileOffset} → size ≡ Some (Bytes n) → place.0 ≡ behind entry.at.0 (n * k)
      → entry.at.0 + entry.extent ≤ package_limit → k < 2 ^ 32
      → ◌≡◌ {A = Entry} (record { ty = entry.ty; count = 1; at = place; extent = n }) (element_of s entry k)
  unfolding element_of
  element_fixed {n} h d b l =
      let m = product entry.ty k p h l in
      rw (← p, h, near entry.at.0 (n * k) d (omega (arith, m)))

-- an element of a sound entry starts in the entry's data
module _ (s : List ℕ) (len : ℕ) (entry : Entry) (sound : SoundEntry s len entry) (k : ℕ) (l : k < entry.count) where
  from_run : (run : Option ℕ) → strings_from s entry.extent entry.at.0 k ≡ run
      → (string_part s entry run).at.0 ≤ entry.at.0 + entry.extent
  from_run (Some from) h = let b = bound s entry.extent entry.at.0 k from h in b.1
  from_run None h = omega arith

  starts : (size : Option ElementSize) → element_size entry.ty ≡ size
      → (element_for size s entry k).at.0 ≤ entry.at.0 + entry.extent
  starts (Some (Bytes n)) h =
      let e = sound.fixed n h in
      let m : k ≤ entry.count = omega arith in
      let g : n * k ≤ n * entry.count = mul-le-mul_left n m in
      omega arith
  starts (Some ToZero) h = from_run (strings_from s entry.extent entry.at.0 k) refl
  starts None h = omega arith

  pub element_starts : (element_of s entry k).at.0 ≤ entry.at.0 + entry.extent
  unfolding element_of
  element_starts = starts (element_size entry.ty) refl

-- in the shape of what is known where an element look-up returns: r is what was sought
module _ (s : List ℕ) (which tag ty k : ℕ) {r : Result Entry Refusal} (p : r ≡ sought s which tag ty) where
  pub seek_bounded : {entry : Entry} → r ≡ Ok entry → entry.at.0 + entry.extent ≤ package_limit
  seek_bounded {entry} h =
      let b = sought_sound s which tag ty entry (sym p ∙ h) in
      let i = b.0.inside in
      omega arith

-- an element that was sought starts at a 32-bit place
as_small : (s : List ℕ) (which tag ty k : ℕ) (r : Result Entry Refusal) → sought s which tag ty ≡ r → (e : Entry) → element_as s k r ≡ Ok e
    → e.at.0 ≤ package_limit
as_small s which tag ty k (Ok entry) h e q = go (ltb k entry.count) refl q
  where
    go : (b : Bool) → ltb k entry.count ≡ b → cond b (Ok (element_of s entry k)) (Err (refusal 26 0)) ≡ Ok e
        → e.at.0 ≤ package_limit
    go true t j =
        let w : element_of s entry k ≡ e = cc in
        let b = sought_sound s which tag ty entry h in
        let i = b.0.inside in
        let m = element_starts s (length s) entry b.0 k (ltb-true k entry.count t) in
        rw (← w) (omega arith)
    go false t j = let z : ◌≡◌ {A = ℕ} 0 1 = cc in omega arith
as_small s which tag ty k (Err refused) h e q = let z : ◌≡◌ {A = ℕ} 0 1 = cc in omega arith

pub element_fits : (s : List ℕ) (which tag ty k : ℕ) {found : Result Entry Refusal} {e : Entry} {place : ℕ}
    → found ≡ sought_element s which tag ty k → found ≡ Ok e → place ≡ e.at.0 → Fits w32 place
unfolding sought_element
element_fits s which tag ty k {e = e} p h q =
    let l = as_small s which tag ty k (sought s which tag ty) refl e (sym p ∙ h) in
    record { fits = omega arith }

-- an element of an entry that lies in a package
module _ (s : List ℕ) (entry : Entry) (k : ℕ) where
  pub in_of : {r : Entry} → entry.at.0 + entry.extent ≤ package_limit → r ≡ element_in s entry k
      → r ≡ element_of s entry k
  in_of l q = q ∙ rw (le-leb (entry.at.0 + entry.extent) package_limit l)
