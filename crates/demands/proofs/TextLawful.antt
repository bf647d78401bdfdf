-- Check 18 passes exactly on lawful texts, where the tags are as the catalogue has them: texts_lawful.
use Prim.Native.Nat.{ℕ, zero, suc, ◌+◌, ◌-◌, ◌*◌, ◌≤◌, ◌<◌}
use mathlib.Core.Path.{◌≡◌, refl, sym, ap, subst, ◌∙◌}
use mathlib.Core.Logic.Iff
use mathlib.Core.Logic.{◌↔◌, inl, ⊎_elim}
use mathlib.Core.List.{List, [], ◌∷◌, ◌++◌}
use mathlib.Core.Bool.{Bool, true, not, ◌&&◌, and-eq-true_iff}
use lib.Dec.{eqb}
use lib.ListN.{length, get_or, take, drop}
use native.Mathlib.Omega.{arith}
use native.Mathlib.Nat.{eq-or-lt_of_le}
use borrow.Author.Tests.{eq-eqb}
use Rattle.be.specs.Numbers.{be32_at}
use Rattle.be.specs.Bytes.{same_bytes}
use Rattle.strings.specs.Strings.{strings_from}
use Rattle.format.specs.declared.section.Section.{Section}
use Rattle.format.specs.declared.section.Structure.TheVariants.{Header}
use Rattle.format.specs.declared.records.IndexRecord.{IndexRecord}
use Rattle.format.specs.Places.{in_file}
use Rattle.entries.specs.declared.types.ElementSize.TheVariants.{ToZero}
use Rattle.entries.specs.Types.{element_size}
use Rattle.entries.specs.Entries.{record_at}
use Rattle.index.specs.Lookup.{tagged_in, entry_at, entry_for}
use Rattle.structure.specs.Structure.{section_at}
use Rattle.structure.specs.Sound.{SoundEntry}
use Rattle.tags.specs.Tags.{count_in}
use Rattle.texts.specs.Texts.{linux, bin_sh, found_text, text_is, all_below, found_below, indexes_below}
use Rattle.texts.specs.Texts.{slashes_end, found_slashes, directories_end, texts_check}
use Rattle.demands.specs.Lawful.{HasTag, WhereTagged, DataIs, Directories, LawfulTexts, LawfulStructure}
use Rattle.demands.proofs.PassIff.{check_iff, eqb_iff, ltb_iff, cond_iff, not_iff, same_iff}
use Rattle.demands.proofs.FoundLawful.{Apart, record_iff, found_iff, below_count_iff}
use Rattle.demands.proofs.StructureLawful.{entry_sound}
use Rattle.demands.proofs.NumberLawful.{OneString, TextLines}
use Rattle.demands.proofs.RowLawful.{SlashEnds, Whole, text_here, rows_lawful}
use Rattle.std.specs.Prelude.{Option, Some}
use Rattle.format.specs.Verdicts.{pass}

below_lawful : (s : List ℕ) (limit n at : ℕ)
    → (all_below s limit n at ≡ true) ↔ ((k : ℕ) → k < n → be32_at s (at + 4 * k) < limit)
unfolding all_below
below_lawful s limit zero at = (λ h k l. absurd (omega arith), λ h. refl)
below_lawful s limit (suc n) at =
    simp (and-eq-true_iff, ltb_iff, below_lawful s limit n (at + 4)) (
      λ h. first h.0 h.1,
      λ h. (rw here at (h 0 (omega arith)), λ k l. rw (there k) at (h (suc k) (omega arith))),
    )
  where
    here : at + 4 * 0 ≡ at
    here = omega arith

    there : (k : ℕ) → at + 4 * suc k ≡ at + 4 + 4 * k
    there k = omega arith

    first : be32_at s at < limit → ((k : ℕ) → k < n → be32_at s (at + 4 + 4 * k) < limit)
        → (k : ℕ) → k < suc n → be32_at s (at + 4 * k) < limit
    first h f zero l = rw here h
    first h f (suc k) l = rw (there k) (f k (omega arith))

-- what stands before a zero byte: the byte before it, or at the first place the last byte
abbrev Before : List ℕ → ℕ → ℕ → ℕ → Type 0
Before s last at z = (z ≡ at → last ≡ 0x2F) × (at < z → get_or s (z - 1) 0 ≡ 0x2F)

module _ (s : List ℕ) where
  -- from a place on: there, and from the next place on
  before_here : (last at z : ℕ) → (get_or s at 0 ≡ 0 → last ≡ 0x2F) → get_or s z 0 ≡ 0 → z ≡ at → Before s last at z
  before_here last at z h q e = (λ e'. h (rw e at q), λ l. absurd (omega arith))

  before_later : (last at z : ℕ) → at < z → Before s (get_or s at 0) (at + 1) z → Before s last at z
  before_later last at z l h = (
    λ e. absurd (omega arith),
    λ l'. ⊎_elim (λ e. let w : z - 1 ≡ at = omega arith in rw w (h.0 (omega arith))) (λ m. h.1 (omega arith))
        (eq-or-lt_of_le l),
  )

  before_next : (last at z : ℕ) → at < z → Before s last at z → Before s (get_or s at 0) (at + 1) z
  before_next last at z l h =
      (λ e. let w : z - 1 ≡ at = omega arith in rw w at (h.1 l), λ m. h.1 l)

  slashes_lawful : (last n at : ℕ)
      → (slashes_end s last n at ≡ true) ↔ ((z : ℕ) → at ≤ z → z < at + n → get_or s z 0 ≡ 0 → Before s last at z)
  unfolding slashes_end
  slashes_lawful last zero at = (λ h z l m. absurd (omega arith), λ h. refl)
  slashes_lawful last (suc n) at =
      simp (and-eq-true_iff, cond_iff, eqb_iff, slashes_lawful (get_or s at 0) n (at + 1)) (
        λ h z l m q. ⊎_elim (λ e. before_here last at z h.0 q (sym e))
            (λ k. before_later last at z k (h.1 z (omega arith) (omega arith) q)) (eq-or-lt_of_le l),
        λ h. (
          λ q. (h at (omega arith) (omega arith) q).0 refl,
          λ z l m q. before_next last at z (omega arith) (h z (omega arith) (omega arith) q),
        ),
      )

  directories_lawful : (n at : ℕ) → (slashes_end s 0 n at ≡ true) ↔ SlashEnds s n at
  directories_lawful n at =
      simp slashes_lawful (
        λ h z l m q. let b = h z l m q in
            let k : z ≡ at → ⊥ = λ e. let f = b.0 e in omega arith in
            (omega arith, b.1 (omega arith)),
        λ h z l m q. let b = h z l m q in (λ e. absurd (omega arith), λ k. b.1),
      )

six_strings : element_size 6 ≡ Some ToZero
unfolding element_size
six_strings = refl

eight_strings : element_size 8 ≡ Some ToZero
unfolding element_size
eight_strings = refl

-- a text without zero bytes, by a test
unfoldable nonzero : List ℕ → Bool
nonzero [] = true
nonzero (b ∷ rest) = not (eqb b 0) && nonzero rest

whole : (text : List ℕ) → nonzero text ≡ true → Whole text
unfolding nonzero
whole [] h i l = absurd (omega arith)
whole (b ∷ rest) h zero l =
    λ e. (not_iff (eqb b 0)).0 ((and-eq-true_iff (not (eqb b 0)) (nonzero rest)).0 h).0 (eq-eqb b 0 e)
whole (b ∷ rest) h (suc i) l = whole rest ((and-eq-true_iff (not (eqb b 0)) (nonzero rest)).0 h).1 i (omega arith)

module _ (s : List ℕ) (start : ℕ) (lawful : LawfulStructure Header s start) where
  abbrev header : Section
  header = section_at s start

  apart : Apart s header
  apart = lawful.tags

  -- a record's data
  module _ (i : ℕ) (l : i < header.nindex) where
    abbrev at : ℕ
    at = (entry_at s header i).at.0

    abbrev extent : ℕ
    extent = (entry_at s header i).extent

    sound : SoundEntry s (length s) (entry_at s header i)
    sound = entry_sound Header s start lawful i l

    rows : (ty : ℕ) → element_size ty ≡ Some ToZero → (record_at s header i).ty ≡ ty
        → strings_from s extent at (record_at s header i).count ≡ Some (at + extent)
    rows ty p q = sound.strings (ap element_size q ∙ p)

    text_at : (text : List ℕ) → Whole text → (record_at s header i).ty ≡ 6 → (record_at s header i).count ≡ 1
        → (same_bytes (take extent (drop at s)) (text ++ 0 ∷ []) ≡ true)
        ↔ (take (length (text ++ 0 ∷ [])) (drop at s) ≡ text ++ 0 ∷ [])
    text_at text w p q =
        let one = subst (λ (n : ℕ). strings_from s extent at n ≡ Some (at + extent)) q (rows 6 six_strings p) in
        Iff.trans (same_iff _ (text ++ 0 ∷ [])) (text_here s at extent one sound.bytes sound.inside text w)

    slashes_at : (record_at s header i).ty ≡ 8
        → (slashes_end s 0 extent at ≡ true) ↔ Directories s at (record_at s header i).count
    slashes_at p =
        Iff.trans (directories_lawful s extent at)
        (rows_lawful s (record_at s header i).count extent at (rows 8 eight_strings p) sound.inside)

  text_lawful : (text : List ℕ) → nonzero text ≡ true → (tag : ℕ) → OneString s header tag
      → (text_is s header (tagged_in s header) (text ++ 0 ∷ []) tag ≡ true) ↔ DataIs s header tag (text ++ 0 ∷ [])
  text_lawful text w tag one =
      record_iff s header apart tag
      (λ (t : Option IndexRecord). found_text s (text ++ 0 ∷ []) (entry_for s header t) ≡ true)
      (λ (e : IndexRecord). take (length (text ++ 0 ∷ [])) (drop (in_file header e.offset) s) ≡ text ++ 0 ∷ [])
      (λ i l t. text_at i l text (whole text w) (one.0 i l t) (one.1 i l t)) (inl refl)

  linux_lawful : (tag : ℕ) → OneString s header tag
      → (text_is s header (tagged_in s header) linux tag ≡ true) ↔ DataIs s header tag linux
  unfolding nonzero
  linux_lawful = text_lawful (0x6C ∷ 0x69 ∷ 0x6E ∷ 0x75 ∷ 0x78 ∷ []) refl

  shell_lawful : (tag : ℕ) → OneString s header tag
      → (text_is s header (tagged_in s header) bin_sh tag ≡ true) ↔ DataIs s header tag bin_sh
  unfolding nonzero
  shell_lawful = text_lawful (0x2F ∷ 0x62 ∷ 0x69 ∷ 0x6E ∷ 0x2F ∷ 0x73 ∷ 0x68 ∷ []) refl

  ends_lawful : WhereTagged s header 1118 (λ (e : IndexRecord). e.ty ≡ 8)
      → (directories_end s header (tagged_in s header) ≡ true)
      ↔ WhereTagged s header 1118 (λ (e : IndexRecord). Directories s (in_file header e.offset) e.count)
  ends_lawful typed =
      record_iff s header apart 1118 (λ (t : Option IndexRecord). found_slashes s (entry_for s header t) ≡ true)
      (λ (e : IndexRecord). Directories s (in_file header e.offset) e.count)
      (λ i l t. slashes_at i l (typed i l t)) (inl refl)

  indexes_lawful : (HasTag s header 1116 → HasTag s header 1118)
      → (indexes_below s header (tagged_in s header) ≡ true) ↔ WhereTagged s header 1116
      (λ (e : IndexRecord). (k : ℕ) → k < e.count
      → WhereTagged s header 1118 (λ (d : IndexRecord). be32_at s (in_file header e.offset + 4 * k) < d.count))
  indexes_lawful led =
      found_iff s header apart 1116
      (λ (t : Option IndexRecord). found_below s (count_in (tagged_in s header) 1118) (entry_for s header t) ≡ true)
      (λ (e : IndexRecord). (k : ℕ) → k < e.count
      → WhereTagged s header 1118 (λ (d : IndexRecord). be32_at s (in_file header e.offset + 4 * k) < d.count))
      (λ e h. simp (below_lawful, below_count_iff s header apart 1118, led h) Iff.rfl) (inl refl)

  -- 1118 is present where 1116 is
  pub texts_lawful : TextLines s header → (HasTag s header 1116 → HasTag s header 1118)
      → (texts_check s header (tagged_in s header) ≡ pass) ↔ LawfulTexts s header
  unfolding texts_check
  texts_lawful typed led =
      let system = linux_lawful 1021 typed.system in
      let pre = shell_lawful 1085 typed.pre_install in
      let post = shell_lawful 1086 typed.post_install in
      let preun = shell_lawful 1087 typed.pre_remove in
      let postun = shell_lawful 1088 typed.post_remove in
      let indexes = indexes_lawful led in
      let ends = ends_lawful typed.directories in
      simp check_iff (
        λ h. let scripts = h.1 in
            let lists = scripts.1.1.1.1 in
            record {
              system = system.0 h.0;
              pre_install = pre.0 scripts.0;
              post_install = post.0 scripts.1.0;
              pre_remove = preun.0 scripts.1.1.0;
              post_remove = postun.0 scripts.1.1.1.0;
              indexes = indexes.0 lists.0;
              directories = ends.0 lists.1.0;
            },
        λ r. (
          system.1 r.system,
          (
            pre.1 r.pre_install,
            (
              post.1 r.post_install,
              (preun.1 r.pre_remove, (postun.1 r.post_remove, (indexes.1 r.indexes, (ends.1 r.directories, refl)))),
            ),
          ),
        ),
      )
