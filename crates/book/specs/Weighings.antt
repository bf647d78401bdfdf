-- The weighed records of a book that are left, by their places.
use Rattle.std.specs.Prelude.{ℕ, ◌-◌, List, length}
use Rattle.book.specs.declared.weighings.Weighings.{Weighings}
use Rattle.book.specs.Book.{places_from}
use Rattle.book.specs.Doses.{weighed_of}

abbrev pub left_from : List ℕ → ℕ → List ℕ
left_from b at = weighed_of b (places_from b (length b - at) at)

abbrev pub left : Weighings → List ℕ
left w = left_from w.book.now w.at
