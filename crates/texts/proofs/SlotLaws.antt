-- Check 18 asks only for tags that have a slot: texts_slots.
use Prim.Native.Nat.{ℕ}
use mathlib.Core.Path.{◌≡◌, refl}
use mathlib.Core.List.{List}
use Rattle.format.specs.declared.section.Section.{Section}
use Rattle.tags.specs.Tags.{Look}
use Rattle.tags.specs.Tables.{slot_of, with_slots}
use Rattle.texts.specs.Texts.{texts_check}

pub texts_slots : (s : List ℕ) (header : Section) (look : Look) → texts_check s header (with_slots look) ≡ texts_check s header look
unfolding slot_of texts_check
texts_slots s header look = refl
