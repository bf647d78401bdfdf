-- Checks 19 to 22 pass exactly on a lawful book: book_lawful. The sum of its doses is what its records state: book_sum.
use Prim.Native.Nat.{ℕ}
use mathlib.Core.Path.{◌≡◌, ◌∙◌}
use mathlib.Core.Logic.{◌↔◌}
use mathlib.Core.List.{List}
use mathlib.Core.Bool.{Bool}
use Rattle.book.specs.Book.{length_check, book_check}
use Rattle.book.specs.Kinds.{Kinds, kinds_of, last_edition}
use Rattle.book.specs.Doses.{doses_in, sum_of}
use Rattle.book.specs.Rows.{stated_sum}
use Rattle.book.specs.RowTheorems.{HoldDoses}
use Rattle.book.proofs.KindTheorems.{any_kinds}
use Rattle.book.proofs.RowTheorems.{lawful_hold, row_sum, pass_is_row}
use Rattle.demands.specs.Lawful.{LawfulBook}
use Rattle.demands.proofs.PassIff.{last_iff, both_iff, leb_iff}
use Rattle.format.specs.Verdicts.{pass}

module _ (known : ℕ → Bool) (hold : HoldDoses known) (b : List ℕ) where
  pub book_lawful : (book_check known b ≡ pass) ↔ LawfulBook known b
  unfolding book_check length_check
  book_lawful =
      simp (both_iff, last_iff, leb_iff, pass_is_row known hold b) (
        λ h. record { size = h.0; row = h.1.0; is_row = h.1.1; lawful = h.1.2 },
        λ l. (l.size, (l.row, l.is_row, l.lawful)),
      )

  pub book_sum : (kinds : Kinds) (l : LawfulBook known b) → sum_of (doses_in kinds b) ≡ stated_sum l.row
  book_sum kinds l =
      (any_kinds kinds (kinds_of last_edition) b).1
      ∙ row_sum b l.row l.is_row (lawful_hold known hold l.row l.is_row.bodies l.lawful)
