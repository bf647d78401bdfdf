-- Check 27 passes exactly as the rule says: digest_lawful.
use Prim.Native.Nat.{ℕ, ◌<◌}
use mathlib.Core.Path.{◌≡◌, sym, ap, ◌∙◌}
use mathlib.Core.Logic.Iff
use mathlib.Core.Logic.{◌↔◌}
use mathlib.Core.List.{List}
use lib.ListN.{length, take, drop}
use native.Mathlib.Omega.{arith}
use Rattle.format.specs.declared.section.Section.{Section}
use Rattle.format.specs.declared.section.Structure.TheVariants.{Signature}
use Rattle.format.specs.Places.{in_file}
use Rattle.entries.specs.Types.{element_size}
use Rattle.entries.specs.Entries.{record_at}
use Rattle.index.specs.Lookup.{entry_at, found_bytes}
use Rattle.structure.specs.Structure.{section_at}
use Rattle.message_digest.specs.Md5.{digest}
use Rattle.message_digest.proofs.DigestLaws.{digest_length}
use Rattle.verify.specs.Digests.{stated_in, from_header, digest_check}
use Rattle.demands.specs.Lawful.{DataIs, LawfulStructure}
use Rattle.demands.proofs.PassIff.{last_iff, same_iff}
use Rattle.demands.proofs.FoundLawful.{typed_found}
use Rattle.demands.proofs.NumberLawful.{DigestLine}
use Rattle.demands.proofs.StructureLawful.{entry_sound}
use Rattle.format.specs.Verdicts.{pass}

module _ (s : List ℕ) (start : ℕ) (lawful : LawfulStructure Signature s start) where
  abbrev signature : Section
  signature = section_at s start

  -- what a look-up of 1004 shows is 16 bytes of the record's data
  shown_bytes : (i : ℕ) → i < signature.nindex → (record_at s signature i).tag ≡ 1004 → (record_at s signature i).ty ≡ 7
      → (record_at s signature i).count ≡ 16
      → stated_in s signature ≡ take 16 (drop (in_file signature (record_at s signature i).offset) s)
  unfolding element_size
  shown_bytes i l t q n =
      let sound = entry_sound Signature s start lawful i l in
      let size = sound.fixed 1 (ap element_size q) in
      let extent : (entry_at s signature i).extent ≡ 16 = omega arith in
      ap (found_bytes s) (typed_found s signature lawful.tags 1004 7 i l t q)
      ∙ ap (λ (k : ℕ). take k (drop (in_file signature (record_at s signature i).offset) s)) extent

  -- 16 bytes of a record's data, and as many as the digest has
  as_many : (i : ℕ) (header : Section)
      → take (length (digest (from_header s header))) (drop (in_file signature (record_at s signature i).offset) s)
      ≡ take 16 (drop (in_file signature (record_at s signature i).offset) s)
  as_many i header = rw (digest_length (from_header s header))

  -- 27
  pub digest_lawful : (header : Section) → DigestLine s signature
      → (digest_check s signature header ≡ pass) ↔ DataIs s signature 1004 (digest (from_header s header))
  unfolding digest_check
  digest_lawful header ((i, l, t), typed, counted) =
      simp last_iff
      (Iff.trans (same_iff _ _) (
        λ h j m u. as_many j header ∙ sym (shown_bytes j m u (typed j m u) (counted j m u)) ∙ h,
        λ h. shown_bytes i l t (typed i l t) (counted i l t) ∙ sym (as_many i header) ∙ h i l t,
      ))
