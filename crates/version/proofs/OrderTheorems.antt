-- Runs are in order by their keys (by_key, run_order), so texts are by their runs (text_order); what the request asks
-- of a total order follows from its laws (total): texts_in_order. A newer text is one that the other is older than:
-- newer_exactly.
use Rattle.std.proofs.Common.{◌≡◌, ℕ, ◌⊎◌, List, [], ◌∷◌, Bool, true, false, cond, Ordering, Less, Equal, Greater, nat_cmp}
use Rattle.std.proofs.Common.{refl, sym, ap, ◌∙◌, inl, inr, arith}
use Rattle.std.proofs.lemmas.Cmp.{nat_list_cmp_total, lists_total, on_total, tied_itself, tied_back, alike_right}
use Rattle.std.specs.Cmp.{IsTotalOrder}
use Rattle.std.specs.Cmp.Lexicographic.{slice_cmp}
use Rattle.std.specs.Ordering.{ordering_then, ordering_reverse}
use Rattle.runs.specs.Runs.{rank, same_kind, digit, Run, run, value, by_run}
use Rattle.runs.proofs.OrderLaws.{Compared, is_less, is_same, is_more, compared}
use Rattle.version.specs.Version.{runs, by_text}
use Rattle.version.specs.Theorems.{TotalOrder, TextsInOrder, NewerExactly}
use Rattle.version.proofs.OlderTheorems.{older_exactly}

-- a comparison that answers as a total order does is one
alike_order : {A : Type 0} {by to : A → A → Ordering} → ((x y : A) → by x y ≡ to x y) → IsTotalOrder to → IsTotalOrder by
alike_order {by} {to} e order = record {
  antisymm = λ x y. e x y ∙ order.antisymm x y ∙ ap ordering_reverse (sym (e y x));
  trans = λ x y z h k. e x z ∙ order.trans x y z (sym (e x y) ∙ h) (sym (e y z) ∙ k);
  congr = λ x y z h. e x z ∙ order.congr x y z (sym (e x y) ∙ h) ∙ sym (e y z);
}

-- a run as numbers that compare one by one: its kind's rank, then the value of digits or the bytes of letters
key : Run → List ℕ
key (run k bs) = rank k ∷ cond (same_kind k digit) (value bs ∷ []) bs

then_last : (o : Ordering) → o ≡ ordering_then o Equal
then_last Less = refl
then_last Equal = refl
then_last Greater = refl

by_key : (r q : Run) → by_run r q ≡ slice_cmp nat_cmp (key r) (key q)
unfolding by_run key
by_key (run k bs) (run l cs) = go (compared (rank k) (rank l))
  where
    one : (t : Bool) → cond t (nat_cmp (value bs) (value cs)) (slice_cmp nat_cmp bs cs)
        ≡ slice_cmp nat_cmp (cond t (value bs ∷ []) bs) (cond t (value cs ∷ []) cs)
    one true = then_last (nat_cmp (value bs) (value cs))
    one false = refl

    go : {o : Ordering} → Compared (rank k) (rank l) o
        → ordering_then o (cond (same_kind k digit) (nat_cmp (value bs) (value cs)) (slice_cmp nat_cmp bs cs))
        ≡ ordering_then o
        (slice_cmp nat_cmp (cond (same_kind k digit) (value bs ∷ []) bs) (cond (same_kind l digit) (value cs ∷ []) cs))
    go (is_less h) = refl
    go (is_same h) = rw (← h) (one (same_kind k digit))
    go (is_more h) = refl

run_order : IsTotalOrder by_run
run_order = alike_order by_key (on_total key nat_list_cmp_total)

text_order : IsTotalOrder by_text
unfolding by_text
text_order = on_total runs (lists_total run_order)

-- an answer is one of the three, and no two
three : (o : Ordering) → (o ≡ Less) ⊎ ((o ≡ Equal) ⊎ (o ≡ Greater))
three Less = inl refl
three Equal = inr (inl refl)
three Greater = inr (inr refl)

not_equal : (o : Ordering) → o ≡ Less → o ≡ Equal → ⊥
not_equal o h k = grind arith

not_greater : (o : Ordering) → o ≡ Less → o ≡ Greater → ⊥
not_greater o h k = grind arith

not_both : (o : Ordering) → o ≡ Equal → o ≡ Greater → ⊥
not_both o h k = grind arith

total : {A : Type 0} (by : A → A → Ordering) → IsTotalOrder by → TotalOrder by
total by order = record {
  reflexive = tied_itself order;
  symmetric = tied_back order;
  transitive = λ x y z h k. order.congr x y z h ∙ k;
  converse = λ x y. (λ h. order.antisymm y x ∙ ap ordering_reverse h, λ h. order.antisymm x y ∙ ap ordering_reverse h);
  chain = order.trans;
  left = order.congr;
  right = λ x y z h. alike_right order y z x h;
  one = λ x y. three (by x y);
  not_equal = λ x y. not_equal (by x y);
  not_greater = λ x y. not_greater (by x y);
  not_both = λ x y. not_both (by x y);
}

pub texts_in_order : TextsInOrder
texts_in_order = total by_text text_order

pub newer_exactly : NewerExactly
newer_exactly s t rs qs p q =
    let c = texts_in_order.converse t s in
    let o = older_exactly t s qs rs q p in
    (λ h. o.0 (c.1 h), λ b. c.0 (o.1 b))
