-- The book and the batch weight are what the package reader's public look-up shows in the header (structure 1), of
-- every package that passes checks 2 to 13 and 28. Proved in proofs/ as book_shown and weight_shown.
use Rattle.std.specs.Prelude.{ℕ, ◌≡◌, List}
use Rattle.be.specs.Numbers.{be32_at}
use Rattle.package.specs.Package.{sound_check, header_at}
use Rattle.lookups.specs.Lookup.{find_bytes}
use Rattle.reading.specs.Reading.{book_of, weight_in}
use Rattle.format.specs.Verdicts.{pass}

abbrev pub BookShown : Type 0
BookShown = (s : List ℕ) → sound_check s ≡ pass → book_of s ≡ find_bytes s 1 20001 7

abbrev pub WeightShown : Type 0
WeightShown = (s : List ℕ) → sound_check s ≡ pass → weight_in s (header_at s) ≡ be32_at (find_bytes s 1 20002 4) 0
