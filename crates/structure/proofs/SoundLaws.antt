-- The entries of a sound structure, and that a look-up finds exactly them.
use Prim.Native.Nat.{ℕ, zero, suc, ◌+◌, ◌-◌, ◌*◌, ◌≤◌, ◌<◌}
use mathlib.Core.Path.{◌≡◌, refl, sym, ap, ◌∙◌}
use mathlib.Core.Logic.{◌⊎◌, inl, inr, ⊎_elim}
use mathlib.Core.List.{List}
use mathlib.Core.Bool.{Bool, true, false, cond, ◌&&◌}
use lib.Dec.{eqb, leb}
use native.Mathlib.Omega.{arith}
use native.Mathlib.Nat.{mul-le-mul_right}
use borrow.Author.Tests.{leb-true, eqb-true, eqb-false}
use Rattle.strings.specs.Strings.{is_ended}
use Rattle.strings.proofs.StringLaws.{bound, positive, tight}
use Rattle.format.specs.declared.section.Section.{Section}
use Rattle.format.specs.declared.section.Structure.{Structure}
use Rattle.format.specs.declared.records.IndexRecord.{IndexRecord}
use Rattle.format.specs.Places.{section_end, in_file}
use Rattle.format.proofs.VerdictLaws.{inverted}
use Rattle.entries.specs.declared.types.ElementSize.{ElementSize}
use Rattle.entries.specs.declared.types.ElementSize.TheVariants.{Bytes, ToZero}
use Rattle.index.specs.declared.Entry.{Entry}
use Rattle.entries.specs.Types.{element_size}
use Rattle.entries.specs.Entries.{record_at, end_for, data_end, entry_check, record_check}
use Rattle.structure.specs.Structure.{section_at, structure_check}
use Rattle.index.specs.Lookup.{entry_of, entry_at, is_for, find_from, find_in}
use Rattle.structure.specs.Sound.{SoundEntry}
use Rattle.entries.proofs.TypeLaws.{bytes_small}
use Rattle.entries.proofs.RuleLaws.{count_lawful}
use Rattle.structure.proofs.PassLaws.{structure_header, structure_record}
use Rattle.std.specs.Prelude.{Option, Some, None}
use Rattle.format.specs.Verdicts.{pass}

ended : (end : Option ℕ) → is_ended end ≡ true → (to : ℕ) × (end ≡ Some to)
ended (Some to) h = (to, refl)
ended None h = let z : ◌≡◌ {A = ℕ} 0 1 = cc in absurd (omega arith)

-- what an index record whose data ends in the store gives
module _ (s : List ℕ) (len : ℕ) (section : Section) (e : IndexRecord) (fits : section_end section ≤ len) (some : 1 ≤ e.count) where
  at_end : (to : ℕ) (size : Option ElementSize) → element_size e.ty ≡ size → end_for size s section e ≡ Some to
      → SoundEntry s len (entry_of section e (Some to))
  at_end to (Some (Bytes n)) p h = go (leb (e.offset.0 + n * e.count) section.hsize) refl h
    where
      go : (b : Bool) → leb (e.offset.0 + n * e.count) section.hsize ≡ b
          → cond b (Some (in_file section e.offset + n * e.count)) None ≡ Some to → SoundEntry s len (entry_of section e (Some to))
      go true l q =
          let t : in_file section e.offset + n * e.count ≡ to = cc in
          let m = bytes_small e.ty n p in
          let k : e.offset.0 + n * e.count ≤ section.hsize = leb-true _ _ l in
          let g = mul-le-mul_right e.count m.0 in
          record {
            lawful = rw p;
            some = some;
            bytes = omega arith;
            inside = omega arith;
            fixed = λ n' p'. let w : n ≡ n' = cc in rw (← w) (omega arith);
            strings = λ p'. let z : ◌≡◌ {A = ℕ} 0 1 = cc in absurd (omega arith);
          }
      go false l q = let z : ◌≡◌ {A = ℕ} 0 1 = cc in absurd (omega arith)
  at_end to (Some ToZero) p h =
      let from = in_file section e.offset in
      let room = section.hsize - e.offset.0 in
      let b = bound s room from e.count to h in
      let t = tight s room from e.count to h in
      let u = positive s room from e.count to h some in
      record {
        lawful = rw p;
        some = some;
        bytes = omega arith;
        inside = omega arith;
        fixed = λ n' p'. let z : ◌≡◌ {A = ℕ} 0 1 = cc in absurd (omega arith);
        strings = λ p'. let w : in_file section e.offset + (to - in_file section e.offset) ≡ to = omega arith in rw w t;
      }
  at_end to None p h = let z : ◌≡◌ {A = ℕ} 0 1 = cc in absurd (omega arith)

  at_any : (end : Option ℕ) → data_end s section e ≡ end → is_ended end ≡ true → SoundEntry s len (entry_of section e end)
  unfolding data_end
  at_any end p h =
      let t = ended end h in
      rw t.1 (at_end t.0 (element_size e.ty) refl (p ∙ t.1))

pub record_sound : (structure : Structure) (s : List ℕ) (len : ℕ) (section : Section) (i : ℕ) → section_end section ≤ len
    → record_check structure s section i ≡ pass → SoundEntry s len (entry_at s section i)
unfolding entry_check
record_sound structure s len section i fits h =
    let k9 = inverted _ _ _ _ h in
    let k10 = inverted _ _ _ _ k9.1 in
    let k11 = inverted _ _ _ _ k10.1 in
    let k12 = inverted _ _ _ _ k11.1 in
    let e = record_at s section i in
    at_any s len section e fits ((count_lawful e structure).0 k10.0).0 (data_end s section e) refl k12.0

first_or_later : (i k : ℕ) → i ≤ k → (i ≡ k) ⊎ (i + 1 ≤ k)
first_or_later i k l = ⊎_elim (λ h. inl (eqb-true i k h)) (λ h. inr (let n = eqb-false i k h in omega arith)) (either (eqb i k))
  where
    either : (b : Bool) → (b ≡ true) ⊎ (b ≡ false)
    either true = inl refl
    either false = inr refl

-- what is found is the entry of a record that has the tag and the type
module _ (s : List ℕ) (section : Section) (tag ty : ℕ) where
  pub found_record : (n i : ℕ) (entry : Entry) → find_from s section n i tag ty ≡ Some entry
      → (k : ℕ) × (i ≤ k) × (k < i + n) × (is_for tag ty (record_at s section k) ≡ true) × (entry ≡ entry_at s section k)
  unfolding find_from
  found_record zero i entry h = let z : ◌≡◌ {A = ℕ} 0 1 = cc in absurd (omega arith)
  found_record (suc n) i entry h = go (is_for tag ty (record_at s section i)) refl h (found_record n (i + 1) entry)
    where
      go : (b : Bool) → is_for tag ty (record_at s section i) ≡ b
          → cond b (Some (entry_at s section i)) (find_from s section n (i + 1) tag ty) ≡ Some entry
          → (find_from s section n (i + 1) tag ty ≡ Some entry
          → (k : ℕ) × (i + 1 ≤ k) × (k < i + 1 + n) × (is_for tag ty (record_at s section k) ≡ true) × (entry ≡ entry_at s section k))
          → (k : ℕ) × (i ≤ k) × (k < i + suc n) × (is_for tag ty (record_at s section k) ≡ true) × (entry ≡ entry_at s section k)
      go true t q f = let w : entry_at s section i ≡ entry = cc in (i, omega arith, omega arith, t, sym w)
      go false t q f = let r = f q in (r.0, omega arith, omega arith, r.3, r.4)

  -- and where a record has them, something is found
  pub record_found : (n i k : ℕ) → i ≤ k → k < i + n → is_for tag ty (record_at s section k) ≡ true
      → (entry : Entry) × (find_from s section n i tag ty ≡ Some entry)
  unfolding find_from
  record_found zero i k l m h = absurd (omega arith)
  record_found (suc n) i k l m h = go (is_for tag ty (record_at s section i)) refl (record_found n (i + 1) k)
    where
      go : (b : Bool) → is_for tag ty (record_at s section i) ≡ b
          → (i + 1 ≤ k → k < i + 1 + n → is_for tag ty (record_at s section k) ≡ true
          → (entry : Entry) × (find_from s section n (i + 1) tag ty ≡ Some entry))
          → (entry : Entry) × (cond b (Some (entry_at s section i)) (find_from s section n (i + 1) tag ty) ≡ Some entry)
      go true t f = (entry_at s section i, refl)
      go false t f = f (⊎_elim (λ e. let z : ◌≡◌ {A = Bool} true false = sym h ∙ ap (λ (j : ℕ). is_for tag ty (record_at s section j)) (sym e) ∙ t in let y : ◌≡◌ {A = ℕ} 0 1 = cc in omega arith) (λ g. g) (first_or_later i k l)) (omega arith) h

-- an entry that a look-up finds in a sound structure is sound
pub found_sound : (structure : Structure) (s : List ℕ) (len start tag ty : ℕ) (entry : Entry) → structure_check structure s len start ≡ pass
    → find_in s (section_at s start) tag ty ≡ Some entry → SoundEntry s len entry
found_sound structure s len start tag ty entry h f =
    let r = found_record s (section_at s start) tag ty (section_at s start).nindex 0 entry f in
    rw r.4 (record_sound structure s len (section_at s start) r.0 (structure_header structure s len start h).fits
    (structure_record structure s len start h r.0 (omega arith)))

-- it has the type that was looked for
pub found_type : (s : List ℕ) (section : Section) (tag ty : ℕ) (entry : Entry) → find_in s section tag ty ≡ Some entry → entry.ty ≡ ty
found_type s section tag ty entry f =
    let r = found_record s section tag ty section.nindex 0 entry f in
    rw r.4 (eqb-true _ _ (second (eqb (record_at s section r.0).tag tag) _ r.3))
  where
    second : (a b : Bool) → (a && b) ≡ true → b ≡ true
    second true b h = h
    second false b h = let z : ◌≡◌ {A = ℕ} 0 1 = cc in absurd (omega arith)

-- sound in a package is sound in a longer one
pub sound_longer : (s : List ℕ) (len more : ℕ) (entry : Entry) → SoundEntry s len entry → len ≤ more → SoundEntry s more entry
sound_longer s len more entry h l =
    record {
      lawful = h.lawful;
      some = h.some;
      bytes = h.bytes;
      inside = let i = h.inside in omega arith;
      fixed = h.fixed;
      strings = h.strings;
    }
