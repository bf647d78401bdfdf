-- Each line's tag has a slot, so checks 14 and 15 ask for no other tag (lines_slots).
use Prim.Native.Nat.{ℕ}
use mathlib.Core.Path.{◌≡◌, refl}
use mathlib.Core.Logic.{inl, inr}
use mathlib.Core.List.{List, [], ◌∷◌}
use mathlib.Core.Bool.{Bool, true}
use Rattle.catalogue.specs.declared.Line.{Line}
use Rattle.catalogue.specs.Catalogue.{signature_lines, header_lines, every}
use Rattle.catalogue.specs.Lists.{Listed, lines_had, signature_of, header_of}
use Rattle.catalogue.proofs.CatalogueLaws.{every_at}
use Rattle.catalogue.proofs.ListLaws.{each_had}
use Rattle.tags.specs.Tags.{Look}
use Rattle.tags.specs.Tables.{slot_of, has_slot, with_slots}
use Rattle.lines.specs.Lines.{lines_of, lines_check}

abbrev tag_has_slot : Line → Bool
tag_has_slot line = has_slot line.tag

all_slots : (every tag_has_slot signature_lines ≡ true) × (every tag_has_slot header_lines ≡ true)
unfolding every slot_of signature_lines header_lines
all_slots = (refl, refl)

of_same : (look : Look) (lines : List Line) → ((line : Line) → Listed line lines → tag_has_slot line ≡ true)
    → lines_of (with_slots look) lines ≡ lines_of look lines
unfolding lines_of
of_same look [] h = refl
of_same look (line ∷ rest) h = rw (h line (inl refl), of_same look rest (λ other l. h other (inr l)))

had_slots : (edition : ℕ) (rows : List Line) → every tag_has_slot rows ≡ true
    → (line : Line) → Listed line (lines_had edition rows) → tag_has_slot line ≡ true
had_slots edition rows t =
    each_had edition (λ (line : Line). tag_has_slot line ≡ true) rows (λ i h e. every_at tag_has_slot rows t i h)

pub lines_slots : (edition : ℕ) (signature header : Look)
    → lines_check (signature_of edition) (header_of edition) (with_slots signature) (with_slots header)
    ≡ lines_check (signature_of edition) (header_of edition) signature header
unfolding lines_check
lines_slots edition signature header =
    rw (
      of_same signature (signature_of edition) (had_slots edition signature_lines all_slots.0),
      of_same header (header_of edition) (had_slots edition header_lines all_slots.1),
    )
