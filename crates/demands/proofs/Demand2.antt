-- Demand 2: the checks of an edition block by block (rules_lawful, part_lawful), together (any_edition), and demand2.
use Prim.Native.Nat.{ℕ, ◌-◌, ◌≤◌}
use mathlib.Core.Path.{◌≡◌, sym, ap, subst, ◌∙◌}
use mathlib.Core.Logic.Iff
use mathlib.Core.Logic.{◌↔◌}
use mathlib.Core.List.{List}
use mathlib.Core.Bool.{Bool}
use lib.ListN.{length, drop}
use native.Mathlib.Omega.{arith}
use Rattle.format.specs.declared.section.Structure.TheVariants.{Header}
use Rattle.format.specs.Sizes.{lead_size}
use Rattle.structure.specs.Structure.{section_at}
use Rattle.package.specs.Package.{header_start, signature_at, header_at}
use Rattle.rules.specs.Rules.{rules_over, rules_check}
use Rattle.message_digest.specs.Md5.{digest}
use Rattle.book.specs.Kinds.{knows}
use Rattle.book.specs.Doses.{doses_in, sum_of}
use Rattle.book.specs.RowTheorems.{HoldDoses}
use Rattle.book.specs.KindTheorems.{parts_size, SizedKinds}
use Rattle.book.proofs.KindLaws.{held}
use Rattle.book.proofs.KindTheorems.{bodies_sized}
use Rattle.reading.specs.Editions.{Edition, edition_of, batch_tag}
use Rattle.reading.specs.Reading.{book_in, book_of, needed, room_check, book_part, opened_check, checks_at}
use Rattle.reading.specs.Buffers.{room_in}
use Rattle.demands.specs.Lawful.{NumberIs, DataIs, LawfulStructure, LawfulLines}
use Rattle.demands.specs.Lawful.{LawfulGroups, LawfulTexts, LawfulBook, HasLine, LawfulPackage}
use Rattle.demands.specs.Editions.{IsEdition}
use Rattle.demands.specs.Demands.{Demand2, AnyEdition}
use Rattle.reading.proofs.AnswerLaws.{done, at_known}
use Rattle.demands.proofs.PassIff.{last_iff, then_iff, leb_iff}
use Rattle.demands.proofs.PackageLawful.{Parts, parts_lawful, parts_sound, sound_parts, start_is}
use Rattle.demands.proofs.FoundLawful.{Apart}
use Rattle.demands.proofs.LineLawful.{lines_lawful}
use Rattle.demands.proofs.NumberLawful.{size_there, digest_there, states_there, locales_there, batch_there, text_lines}
use Rattle.demands.proofs.NumberLawful.{size_lawful, batch_lawful}
use Rattle.demands.proofs.DigestLawful.{digest_lawful}
use Rattle.demands.proofs.GroupLawful.{groups_lawful, directories_there}
use Rattle.demands.proofs.TextLawful.{texts_lawful}
use Rattle.demands.proofs.EditionInstances.{editions_lawful}
use Rattle.demands.proofs.BookLawful.{book_lawful, book_sum}
use Rattle.format.specs.Verdicts.{pass}

module _ (edition : Edition) (s : List ℕ) where
  abbrev known : ℕ → Bool
  known = knows edition.kinds

  -- a header that starts at a place: its rules, and those of the package
  abbrev Ruled : ℕ → Type 0
  Ruled start =
      LawfulLines edition s (signature_at s) (section_at s start)
      × (NumberIs s (signature_at s) 1000 (length s - start)
      × (LawfulGroups s (signature_at s) (section_at s start) × LawfulTexts s (section_at s start)))

  abbrev Digested : ℕ → Type 0
  Digested start = DataIs s (signature_at s) 1004 (digest (drop start s))

  abbrev Weighed : ℕ → ℕ → Type 0
  Weighed room start =
      LawfulBook known (book_in s (section_at s start))
      × ((HasLine batch_tag edition.header
      → NumberIs s (section_at s start) batch_tag (sum_of (doses_in edition.kinds (book_in s (section_at s start)))))
      × (needed edition.kinds (book_of s) ≤ room))

  -- 14 to 18
  rules_lawful : (start : ℕ) → IsEdition edition → Apart s (signature_at s) → LawfulStructure Header s start
      → (rules_check edition.signature edition.header s (length s) (signature_at s) (section_at s start) ≡ pass)
      ↔ Ruled start
  unfolding rules_over
  rules_lawful start is apart lawful =
      let apart' = lawful.tags in
      let signature = signature_at s in
      let header = section_at s start in
      then_iff _ _ (lines_lawful edition s signature header apart apart') λ lines.
      let size = size_there edition is s signature header lines in
      let states = states_there edition is s signature header lines in
      let locales = locales_there edition is s signature header lines in
      then_iff _ _ (size_lawful s (length s) signature header apart size) λ payload.
      then_iff _ _ (groups_lawful s signature header apart' states locales) λ groups.
      texts_lawful s start lawful (text_lines edition is s signature header lines)
      (directories_there s signature header groups)

  room_lawful : (room : ℕ) → (room_check edition.kinds room (book_of s) ≡ pass) ↔ (needed edition.kinds (book_of s) ≤ room)
  unfolding room_check
  room_lawful room = simp (last_iff, leb_iff) Iff.rfl

  abbrev H : ℕ
  H = header_start (signature_at s)

  -- 19 to 24
  part_lawful : IsEdition edition → HoldDoses known → (room : ℕ) → LawfulStructure Header s H
      → LawfulLines edition s (signature_at s) (header_at s)
      → (book_part edition s (header_at s) room (book_of s) ≡ pass) ↔ Weighed room H
  unfolding book_part
  part_lawful is hold room lawful lines =
      let sum = sum_of (doses_in edition.kinds (book_of s)) in
      let there = batch_there edition is s (signature_at s) (header_at s) lines in
      then_iff _ _ (book_lawful known hold (book_of s)) λ book.
      then_iff _ _ (batch_lawful s H lawful edition sum there) λ batch.
      room_lawful room

  -- 2 to 24, 27 and 28
  abbrev Blocks : ℕ → ℕ → Type 0
  Blocks room start = Parts s start × (Ruled start × (Digested start × Weighed room start))

  blocks_lawful : IsEdition edition → HoldDoses known → (room : ℕ) → (checks_at edition s room ≡ pass) ↔ Blocks room H
  unfolding checks_at opened_check
  blocks_lawful is hold room =
      then_iff _ _ (parts_lawful s) λ sound.
      then_iff _ _ (rules_lawful H is sound.3.tags sound.5) λ rules.
      let stated = digest_there edition is s (signature_at s) (header_at s) rules.0 in
      then_iff _ _ (digest_lawful s lead_size sound.3 (header_at s) stated) λ digested.
      part_lawful is hold room sound.5 rules.0

  blocks_package : HoldDoses known → (room : ℕ) → Blocks room H → LawfulPackage edition s
  unfolding parts_sound
  blocks_package hold room (sound, (rules, (digested, part))) =
      record {
        sound = parts_sound s sound;
        lines = rules.0;
        payload = rules.1.0;
        groups = rules.1.1.0;
        texts = rules.1.1.1;
        digested = digested;
        book = part.0;
        batch = λ h i l t. part.1.0 h i l t ∙ book_sum known hold (book_of s) edition.kinds part.0;
      }

  package_blocks : HoldDoses known → (room : ℕ) → needed edition.kinds (book_of s) ≤ room → (r : LawfulPackage edition s)
      → Blocks room r.sound.H
  package_blocks hold room fits r = (
    sound_parts s r.sound,
    (
      (r.lines, (r.payload, (r.groups, r.texts))),
      (
        r.digested,
        (
          r.book,
          (
            λ h i l t.
                r.batch h i l t ∙ sym (book_sum known hold (book_in s (section_at s r.sound.H)) edition.kinds r.book),
            fits,
          ),
        ),
      ),
    ),
  )

  package_lawful : HoldDoses known → (room : ℕ) → Blocks room H ↔ (LawfulPackage edition s × (needed edition.kinds (book_of s) ≤ room))
  package_lawful hold room = (
    λ b. (blocks_package hold room b, b.1.1.1.1.1),
    λ (r, fits).
        subst (Blocks room) (start_is s r.sound) (package_blocks hold room fits r),
  )

-- a weighed body begins with oxide 2 and milligrams 4, so it has six bytes or more
hold_doses : (edition : Edition) → IsEdition edition → SizedKinds edition.kinds → HoldDoses (knows edition.kinds)
unfolding parts_size
hold_doses edition is sized kind k w =
    let body = held (edition.kinds kind) k in
    let begins = is.weighed kind body.0 w body.1 in
    let size = sized kind body.0 body.1 in
    let parts = ap parts_size begins.1 in
    omega arith

pub any_edition : AnyEdition
any_edition edition is sized s room =
    let hold = hold_doses edition is sized in
    Iff.trans (blocks_lawful edition s is hold room) (package_lawful edition s hold room)

pub demand2 : Demand2
demand2 form edition s before l m =
    let at = at_known edition l m s (room_in form before) in
    let checks = any_edition (edition_of edition) (editions_lawful edition l) (bodies_sized edition) s (room_in form before) in (
      λ h. checks.0 (sym at ∙ (done _ _ h).0),
      λ r. rw (at ∙ checks.1 r),
    )
