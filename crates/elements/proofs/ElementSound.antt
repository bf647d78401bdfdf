-- An element of a sound entry is a sound entry of one element: element_sound.
use Prim.Native.Nat.{ℕ, ◌+◌, ◌-◌, ◌≤◌, ◌<◌}
use mathlib.Core.Path.{◌≡◌, refl}
use mathlib.Core.List.{List}
use native.Mathlib.Omega.{arith}
use native.Mathlib.Nat.{mul-add, mul-le-mul_left}
use Rattle.strings.specs.Strings.{strings_from}
use Rattle.strings.proofs.StringLaws.{bound, positive, tight}
use Rattle.strings.proofs.RowLaws.{string_at}
use Rattle.entries.specs.declared.types.ElementSize.{ElementSize}
use Rattle.entries.specs.declared.types.ElementSize.TheVariants.{Bytes, ToZero}
use Rattle.index.specs.declared.Entry.{Entry}
use Rattle.entries.specs.Types.{element_size}
use Rattle.structure.specs.Sound.{SoundEntry}
use Rattle.entries.proofs.TypeLaws.{bytes_small}
use Rattle.elements.specs.Elements.{element_for, element_of}
use Rattle.std.specs.Prelude.{Option, Some, None}

module _ (s : List ℕ) (len : ℕ) (entry : Entry) (t : SoundEntry s len entry) (k : ℕ) (l : k < entry.count) where
  fixed_sound : (n : ℕ) → element_size entry.ty ≡ Some (Bytes n) → SoundEntry s len (element_for (Some (Bytes n)) s entry k)
  fixed_sound n p =
      let m = bytes_small entry.ty n p in
      let a = t.inside in
      let b = t.fixed n p in
      let j : k + 1 ≤ entry.count = omega arith in
      let g = mul-le-mul_left n j in
      let f = mul-add n k 1 in
      record {
        lawful = t.lawful;
        some = omega arith;
        bytes = m.0;
        inside = omega arith;
        fixed = λ n' p'. let w : n ≡ n' = cc in omega arith;
        strings = λ p'. let z : ◌≡◌ {A = ℕ} 0 1 = cc in absurd (omega arith);
      }

  string_sound : element_size entry.ty ≡ Some ToZero → (m m' : ℕ) → strings_from s entry.extent entry.at.0 k ≡ Some m
      → m' ≤ entry.at.0 + entry.extent → strings_from s (entry.at.0 + entry.extent - m) m 1 ≡ Some m'
      → SoundEntry s len (element_for (Some ToZero) s entry k)
  string_sound p m m' q b r =
      let u = positive s _ m 1 m' r (omega arith) in
      let w : m + (m' - m) ≡ m' = omega arith in
      let a = t.inside in
      rw (q, r)
      (record {
        lawful = t.lawful;
        some = omega arith;
        bytes = omega arith;
        inside = omega arith;
        fixed = λ n' p'. let z : ◌≡◌ {A = ℕ} 0 1 = cc in absurd (omega arith);
        strings = λ p'. rw w (tight s _ m 1 m' r);
      })

  of_size : (size : Option ElementSize) → element_size entry.ty ≡ size → SoundEntry s len (element_for size s entry k)
  of_size (Some (Bytes n)) p = fixed_sound n p
  of_size (Some ToZero) p =
      let r = string_at s entry.extent entry.at.0 k entry.count _ l (t.strings p) in
      string_sound p r.0 r.1 r.2 (bound s entry.extent entry.at.0 (k + 1) r.1 r.3).1 r.4
  of_size None p =
      let q = t.lawful in
      let z : ◌≡◌ {A = ℕ} 0 1 = cc in
      absurd (omega arith)

  pub element_sound : SoundEntry s len (element_of s entry k)
  unfolding element_of
  element_sound = of_size (element_size entry.ty) refl
