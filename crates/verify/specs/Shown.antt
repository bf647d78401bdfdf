-- The digest that a package states is what the public look-up shows in the signature (structure 0), of every package that
-- passes checks 2 to 13 and 28. Proved in proofs/ as digest_shown.
use Rattle.std.specs.Prelude.{ℕ, ◌≡◌, List}
use Rattle.package.specs.Package.{sound_check, signature_at}
use Rattle.lookups.specs.Lookup.{find_bytes}
use Rattle.verify.specs.Digests.{stated_in}
use Rattle.format.specs.Verdicts.{pass}

abbrev pub DigestShown : Type 0
DigestShown = (s : List ℕ) → sound_check s ≡ pass → stated_in s (signature_at s) ≡ find_bytes s 0 1004 7
