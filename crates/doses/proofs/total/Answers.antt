-- The milligrams of a dose are a number of the slice.
use Rattle.std.proofs.Common.{arith, ℕ, ◌≡◌, ◌<◌, ◌+◌, ◌∙◌, sym, ap, List, ◌++◌, length}
use lib.ListN.{get_or, length-append}
use Rattle.std.proofs.Math.ListN.{get_or-append}
use Rattle.std.proofs.lemmas.List.{get_or-append-add}
use Rattle.std.specs.Slice.Iter.{chunks_exact_rest, chunks_exact_size}
use Rattle.doses.proofs.total.Goals as goal

first_below : (all dose rest : List ℕ) → all ≡ dose ++ rest → length dose ≡ 3 → ((i : ℕ) → get_or all i 0 < 4294967296)
    → get_or dose 1 0 < 4294967296
first_below all dose rest e l below =
    rw (sym (get_or-append dose rest 0 1 (omega (arith, l))), sym e) (below 1)

rest_below : (all dose rest : List ℕ) → all ≡ dose ++ rest → ((i : ℕ) → get_or all i 0 < 4294967296)
    → (i : ℕ) → get_or rest i 0 < 4294967296
rest_below all dose rest e below i =
    rw (sym (get_or-append-add dose rest i 0), sym e) (below (length dose + i))

below_in : (left numbers : List ℕ) → left ≡ numbers → ((i : ℕ) → get_or numbers i 0 < 4294967296)
    → (i : ℕ) → get_or left i 0 < 4294967296
below_in left numbers e below i = rw e (below i)

rest_length : (all dose rest : List ℕ) → all ≡ dose ++ rest → length dose ≡ 3 → length all ≡ length rest + 3
rest_length all dose rest e l = omega (arith, ap length e, length-append dose rest, l)

pub loop-dose-init : goal.loop-dose-init
loop-dose-init c =
    let made = c.chunks_exact-dose-items.ensures in
    let given = c.into_iter-dose-iterator.ensures.into_iter_gives in
    let rest = ap chunks_exact_rest given ∙ made.rest in (
      ap chunks_exact_size given ∙ made.size,
      omega (arith, ap length rest, c.requires),
      below_in _ _ rest (λ i. omega (arith, c.type_inv.numbers i)),
    )

pub overflow_add-sum : goal.overflow_add-sum
overflow_add-sum c =
    let inv = c.loop-dose.invariant in
    let h = c.in-Some.ensures.steps in
    let b = first_below _ _ _ h.1.0 (h.1.1 ∙ inv.0) inv.2 in
    omega (arith, b, inv.1)

pub loop-dose-preserved : goal.loop-dose-preserved
loop-dose-preserved c =
    let inv = c.loop-dose.invariant in
    let h = c.in-Some.ensures.steps in
    let b = first_below _ _ _ h.1.0 (h.1.1 ∙ inv.0) inv.2 in
    let n = rest_length _ _ _ h.1.0 (h.1.1 ∙ inv.0) in
    (h.0 ∙ inv.0, omega (arith, b, n, inv.1), rest_below _ _ _ h.1.0 inv.2)
