-- The book and the batch weight as the public look-up shows them: book_shown, weight_shown.
use Prim.Native.Nat.{ℕ}
use mathlib.Core.Path.{ap}
use mathlib.Core.List.{List}
use Rattle.be.specs.Numbers.{be32_at}
use Rattle.lookups.proofs.SeekLaws.{header_shown}
use Rattle.reading.specs.Shown.{BookShown, WeightShown}

pub book_shown : BookShown
book_shown s h = header_shown s 20001 7 h

pub weight_shown : WeightShown
weight_shown s h = ap (λ (l : List ℕ). be32_at l 0) (header_shown s 20002 4 h)
