-- Check 17 asks only for tags that have a slot: groups_slots.
use Prim.Native.Nat.{ℕ}
use mathlib.Core.Path.{◌≡◌, refl}
use mathlib.Core.List.{List}
use Rattle.format.specs.declared.section.Section.{Section}
use Rattle.tags.specs.Tags.{Look}
use Rattle.tags.specs.Tables.{slot_of, with_slots}
use Rattle.files.specs.Files.{count_check, counts_check, old_names_right, new_names_check, names_check}
use Rattle.groups.specs.Groups.{needs_check, signature_pairs, script_pairs, whole_check, led_check, led_groups, groups_check}

pub groups_slots : (s : List ℕ) (header : Section) (inSignature inHeader : Look)
    → groups_check s header (with_slots inSignature) (with_slots inHeader) ≡ groups_check s header inSignature inHeader
unfolding slot_of count_check counts_check old_names_right new_names_check names_check needs_check signature_pairs script_pairs whole_check led_check led_groups groups_check
groups_slots s header inSignature inHeader = refl
