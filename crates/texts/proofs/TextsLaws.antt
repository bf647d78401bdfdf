-- Laws of the texts' scans, one for each way through a turn (below_begun to below_spent, slash_begun to slash_spent), of where
-- an entry ends (extent_le), and of the programs as one run (texts_as).
use Prim.Native.Nat.{ℕ, suc, ◌+◌, ◌-◌, ◌*◌, ◌≤◌, ◌<◌}
use mathlib.Core.Path.{◌≡◌, refl, sym, ap, ◌∙◌}
use mathlib.Core.List.{List}
use mathlib.Core.Bool.{Bool, true, false, cond, not, ◌&&◌}
use lib.Dec.{eqb, ltb, leb}
use lib.ListN.{get_or}
use native.Mathlib.Omega.{arith}
use borrow.Author.Tests.{eq-eqb, ne_eqb, lt-ltb, le-ltb, leb-true}
use Rattle.be.specs.Numbers.{be32_at}
use Rattle.strings.specs.Strings.{strings_from}
use Rattle.strings.proofs.StringLaws.{bound}
use Rattle.format.specs.declared.section.Section.{Section}
use Rattle.format.specs.declared.records.IndexRecord.{IndexRecord}
use Rattle.format.specs.Places.{in_file, section_end}
use Rattle.entries.specs.declared.types.ElementSize.{ElementSize}
use Rattle.entries.specs.declared.types.ElementSize.TheVariants.{Bytes, ToZero}
use Rattle.index.specs.declared.Entry.{Entry}
use Rattle.entries.specs.Types.{element_size}
use Rattle.entries.specs.Entries.{end_for, data_end}
use Rattle.index.specs.Lookup.{extent_to, entry_of, entry_for}
use Rattle.tags.specs.Tags.{Look}
use Rattle.format.specs.Verdicts.{check, both, run_from, Verdict, pass, refusal}
use Rattle.format.proofs.VerdictLaws.{passed, stopped, told, untold, both_pass}
use Rattle.format.proofs.RunLaws.{turn, ends, apart, both_assoc}
use Rattle.texts.specs.Texts.{linux, bin_sh, text_is, programs, program_check, programs_check, all_below, indexes_below, slashes_end}
use Rattle.texts.specs.Texts.{directories_end, texts_check}
use Rattle.std.specs.Prelude.{Option, Some, None, Err}

-- n numbers from a place on; v is what the scan began with
module _ (s : List ℕ) (limit n at : ℕ) where
  below_step : (m i : ℕ) → all_below s limit (suc m) i ≡ (ltb (be32_at s i) limit && all_below s limit m (i + 4))
  unfolding all_below
  below_step m i = refl

  pub below_begun : all_below s limit n at ≡ all_below s limit (n - 0) (at + 4 * 0)
  below_begun = let p : n - 0 ≡ n = omega arith in let q : at + 4 * 0 ≡ at = omega arith in rw (p, q)

  module _ (i : ℕ) {v : Bool} (inv : v ≡ all_below s limit (n - i) (at + 4 * i)) where
    below_unrolled : i < n → v ≡ (ltb (be32_at s (at + 4 * i)) limit && all_below s limit (n - (i + 1)) (at + 4 * (i + 1)))
    below_unrolled l =
        let k : n - i ≡ suc (n - (i + 1)) = omega arith in
        let q : at + 4 * (i + 1) ≡ at + 4 * i + 4 = omega arith in
        inv ∙ rw (k, q) (below_step (n - (i + 1)) (at + 4 * i))

    pub below_turn : {r : ℕ} → r ≡ be32_at s (at + 4 * i) → r < limit → i < n → v ≡ all_below s limit (n - (i + 1)) (at + 4 * (i + 1))
    below_turn q h l = below_unrolled l ∙ rw (lt-ltb (be32_at s (at + 4 * i)) limit (omega arith))

    pub below_ends : {r : ℕ} → r ≡ be32_at s (at + 4 * i) → limit ≤ r → i < n → false ≡ v
    below_ends q h l = sym (below_unrolled l ∙ rw (le-ltb (be32_at s (at + 4 * i)) limit (omega arith)))

    pub below_spent : n ≤ i → true ≡ v
    unfolding all_below
    below_spent l = let k : n - i ≡ 0 = omega arith in sym (rw k at inv)

-- n bytes from a place on; b is the byte that was read, last the one before it
module _ (s : List ℕ) (n at : ℕ) where
  slash_step : (last m i : ℕ) → slashes_end s last (suc m) i
      ≡ (cond (eqb (get_or s i 0) 0) (eqb last 0x2F) true && slashes_end s (get_or s i 0) m (i + 1))
  unfolding slashes_end
  slash_step last m i = refl

  pub slash_begun : slashes_end s 0 n at ≡ slashes_end s 0 (n - 0) (at + 0)
  slash_begun = let p : n - 0 ≡ n = omega arith in let q : at + 0 ≡ at = omega arith in rw (p, q)

  module _ (last i : ℕ) {v : Bool} (inv : v ≡ slashes_end s last (n - i) (at + i)) where
    slash_unrolled : {b : ℕ} → b ≡ get_or s (at + i) 0 → i < n
        → v ≡ (cond (eqb b 0) (eqb last 0x2F) true && slashes_end s b (n - (i + 1)) (at + (i + 1)))
    slash_unrolled q l =
        let k : n - i ≡ suc (n - (i + 1)) = omega arith in
        let e : at + (i + 1) ≡ at + i + 1 = omega arith in
        rw (q, e) (inv ∙ rw k (slash_step last (n - (i + 1)) (at + i)))

    pub slash_zero : {b : ℕ} → b ≡ get_or s (at + i) 0 → i < n → b ≡ 0 → last ≡ 0x2F
        → v ≡ slashes_end s b (n - (i + 1)) (at + (i + 1))
    slash_zero {b} q l h k = slash_unrolled q l ∙ rw (eq-eqb b 0 h, eq-eqb last 0x2F k)

    pub slash_other : {b : ℕ} → b ≡ get_or s (at + i) 0 → i < n → (b ≡ 0 → ⊥) → v ≡ slashes_end s b (n - (i + 1)) (at + (i + 1))
    slash_other {b} q l h = slash_unrolled q l ∙ rw (ne_eqb b 0 h)

    pub slash_ends : {b : ℕ} → b ≡ get_or s (at + i) 0 → i < n → b ≡ 0 → (last ≡ 0x2F → ⊥) → false ≡ v
    slash_ends {b} q l h k = sym (slash_unrolled q l ∙ rw (eq-eqb b 0 h, ne_eqb last 0x2F k))

    pub slash_spent : n ≤ i → true ≡ v
    unfolding slashes_end
    slash_spent l = let k : n - i ≡ 0 = omega arith in sym (rw k at inv)

-- an entry's data ends where its structure does, or before
module _ (s : List ℕ) (section : Section) (e : IndexRecord) where
  strings_le : (end : Option ℕ)
      → strings_from s (section.hsize - e.offset.0) (in_file section e.offset) e.count ≡ end
      → extent_to (in_file section e.offset) end ≤ section_end section - in_file section e.offset
  strings_le (Some to) h =
      let b = bound s (section.hsize - e.offset.0) (in_file section e.offset) e.count to h in
      omega arith
  strings_le None h = omega arith

  end_le : (size : Option ElementSize)
      → extent_to (in_file section e.offset) (end_for size s section e)
      ≤ section_end section - in_file section e.offset
  end_le (Some (Bytes n)) = go (leb (e.offset.0 + n * e.count) section.hsize) refl
    where
      go : (b : Bool) → leb (e.offset.0 + n * e.count) section.hsize ≡ b
          → extent_to (in_file section e.offset) (cond b (Some (in_file section e.offset + n * e.count)) None)
          ≤ section_end section - in_file section e.offset
      go true l =
          let k : e.offset.0 + n * e.count ≤ section.hsize = leb-true _ _ l in
          omega arith
      go false l = omega arith
  end_le (Some ToZero) = strings_le _ refl
  end_le None = omega arith

pub extent_le : (s : List ℕ) (section : Section) (t : Option IndexRecord) {f : Option Entry} {entry : Entry} → f ≡ entry_for s section t
    → f ≡ Some entry → entry.extent ≤ section_end section - entry.at.0
unfolding data_end
extent_le s section (Some e) {entry = entry} p h =
    let q : entry_of section e (data_end s section e) ≡ entry = cc in
    rw (← q) (end_le s section e (element_size e.ty))
extent_le s section None p h = let z : ◌≡◌ {A = ℕ} 0 1 = cc in absurd (omega arith)

-- the programs, one for each way through a turn: r is whether program i is right
module _ (s : List ℕ) (header : Section) (look : Look) where
  abbrev pub program_at : ℕ → Verdict
  program_at k = program_check s header look (get_or programs k 0)

  module _ (i : ℕ) {v : Verdict} (inv : v ≡ run_from program_at (4 - i) i) {r : Bool}
      (p : r ≡ text_is s header look bin_sh (get_or programs i 0)) (h : i < 4) where
    pub program_turn : not r ≡ false → v ≡ run_from program_at (4 - (i + 1)) (i + 1)
    program_turn k = turn program_at 4 i inv (passed 18 (get_or programs i 0) (told p k) refl) h refl

    pub program_ends : not r ≡ true → Err (refusal 18 (get_or programs i 0)) ≡ v
    program_ends k = ends program_at 4 i inv (stopped pass (untold p k)) h refl

-- a rung before a run of checks is its first
run_first : (ok : Bool) (number place : ℕ) (rest run : Verdict) {whole : Verdict} → whole ≡ both run rest
    → check ok number place whole ≡ both (both (check ok number place pass) run) rest
run_first ok number place rest run {whole} h =
    apart ok number place whole
    ∙ ap (both (check ok number place pass)) h
    ∙ sym (both_assoc (check ok number place pass) run rest)

pub texts_as : (s : List ℕ) (header : Section) (look : Look) → texts_check s header look
    ≡ check (text_is s header look linux 1021) 18 1021
    (both (programs_check s header look)
    (check (indexes_below s header look) 18 1116
    (check (directories_end s header look) 18 1118
    pass)))
unfolding texts_check run_from
texts_as s header look =
    let rest = check (indexes_below s header look) 18 1116 (check (directories_end s header look) 18 1118 pass) in
    ap (check (text_is s header look linux 1021) 18 1021)
    (run_first (text_is s header look bin_sh 1085) 18 1085 rest _
    (run_first (text_is s header look bin_sh 1086) 18 1086 rest _
    (run_first (text_is s header look bin_sh 1087) 18 1087 rest _
    (run_first (text_is s header look bin_sh 1088) 18 1088 rest _
    (sym (both_pass refl))))))
