-- The lead, from the numbers that were read: lead_read.
use Prim.Native.Nat.{ℕ}
use mathlib.Core.Path.{◌≡◌, ap, ◌∙◌}
use mathlib.Core.List.{List}
use mathlib.Core.Bool.{Bool}
use lib.ListN.{get_or}
use Rattle.be.specs.Numbers.{be16_at, be32_at}
use Rattle.strings.specs.Strings.{strings_from, is_ended}
use Rattle.format.specs.declared.lead.Lead.{Lead}
use Rattle.format.specs.Lead.{lead_of}
use Rattle.std.specs.Prelude.{Option}

pub lead_read : (s : List ℕ) {magic major minor ty system kind : ℕ} {e : Option ℕ} {named : Bool}
    → magic ≡ be32_at s 0 → major ≡ get_or s 4 0 → minor ≡ get_or s 5 0 → ty ≡ be16_at s 6
    → e ≡ strings_from s 66 10 1 → named ≡ is_ended e → system ≡ be16_at s 76 → kind ≡ be16_at s 78
    → ◌≡◌ {A = Lead} (record {
      magic = magic;
      major = major;
      minor = minor;
      ty = ty;
      named = named;
      system = system;
      signature_type = kind;
    }) (lead_of s)
lead_read s a b c d f g h k = rw (a, b, c, d, g ∙ ap is_ended f, h, k)
