-- Checks 14 to 18 ask only for tags that have a slot (rules_slots), so they find in the gathered tables what they find in the
-- indexes (rules_gathered).
use Prim.Native.Nat.{ℕ}
use mathlib.Core.Path.{◌≡◌, refl, ◌∙◌}
use mathlib.Core.List.{List}
use Rattle.format.specs.declared.section.Section.{Section}
use Rattle.index.specs.Lookup.{tagged_in}
use Rattle.catalogue.specs.Lists.{signature_of, header_of}
use Rattle.tags.specs.declared.Table.{Table}
use Rattle.tags.specs.Tags.{Look}
use Rattle.tags.specs.Tables.{slot_of, shown_by, empty_table, gathered, with_slots}
use Rattle.tags.proofs.ShownLaws.{gathered_shows}
use Rattle.lines.proofs.SlotLaws.{lines_slots}
use Rattle.groups.proofs.SlotLaws.{groups_slots}
use Rattle.texts.proofs.SlotLaws.{texts_slots}
use Rattle.rules.specs.Rules.{size_tag_check, rules_over, rules_check}
use Rattle.format.specs.Verdicts.{Verdict}

module _ (edition : ℕ) (s : List ℕ) (len : ℕ) (signature header : Section) where
  size_slots : (look : Look) → size_tag_check s len signature header (with_slots look) ≡ size_tag_check s len signature header look
  unfolding slot_of size_tag_check
  size_slots look = refl

  pub rules_slots : (a b : Look)
      → rules_over (signature_of edition) (header_of edition) s len signature header (with_slots a) (with_slots b)
      ≡ rules_over (signature_of edition) (header_of edition) s len signature header a b
  unfolding rules_over
  rules_slots a b = rw (lines_slots edition a b, size_slots a, groups_slots s header a b, texts_slots s header b)

  pub rules_gathered : {v : Verdict} {none nought first second : Table} → none ≡ empty_table → first ≡ gathered s signature none
      → nought ≡ empty_table → second ≡ gathered s header nought
      → v ≡ rules_over (signature_of edition) (header_of edition) s len signature header (shown_by first) (shown_by second)
      → v ≡ rules_check (signature_of edition) (header_of edition) s len signature header
  rules_gathered a p b q k =
      k
      ∙ rw (p, q, a, b, gathered_shows s signature, gathered_shows s header)
      (rules_slots (tagged_in s signature) (tagged_in s header))
