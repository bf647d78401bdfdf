-- A text's runs: behind separators they are the same (runs_skip), a byte in front makes the first longer or a new one
-- (runs_more, runs_new), the first is the longest (runs_run); how two texts compare by their first runs (both_run,
-- both_end, differ).
use Rattle.std.proofs.Common.{◌≡◌, ℕ, suc, ◌+◌, ◌<◌, List, [], ◌∷◌, Bool, true, false, cond, leb, length, take, drop}
use Rattle.std.proofs.Common.{Ordering, Equal, nat_cmp, refl, sym, ap, ap₂, ◌∙◌, arith, one-add, drop_of_length-le, eqb-true, leb-true, leb-false}
use Rattle.std.specs.Cmp.Lexicographic.{slice_cmp}
use Rattle.std.specs.List.{prefix_len}
use Rattle.std.specs.Ordering.{ordering_then}
use borrow.Author.Tests.{eqb-false}
use Rattle.runs.specs.declared.Kind.{Kind}
use Rattle.runs.specs.Runs.{separator, rank, same_kind, kind, of_kind, run, front_run, by_run}
use Rattle.runs.proofs.OrderLaws.{less, more, Compared, compared, then_unlike}
use Rattle.runs.proofs.KindLaws.{same_rank, kind_same, kind_other, same_yes, same_no}
use Rattle.runs.proofs.FrontLaws.{front_pass}
use Rattle.version.specs.Version.{kind_of, longer, runs, by_text}

-- what only separates is passed over
pub runs_skip : (s : List ℕ) → runs (drop (prefix_len (of_kind separator) s) s) ≡ runs s
unfolding runs of_kind
runs_skip [] = refl
runs_skip (b ∷ s) = go (same_kind (kind b) separator) refl (runs_skip s)
  where
    go : (t : Bool) → same_kind (kind b) separator ≡ t → runs (drop (prefix_len (of_kind separator) s) s) ≡ runs s
        → runs (drop (cond t (1 + prefix_len (of_kind separator) s) 0) (b ∷ s)) ≡ runs (b ∷ s)
    go true h k = rw (one-add (prefix_len (of_kind separator) s), h) k
    go false h k = refl

-- the first run
front_none : (k : Kind) (s : List ℕ) → (kind_of s ≡ k → ⊥) → prefix_len (of_kind k) s ≡ 0
unfolding of_kind kind_of
front_none k [] h = refl
front_none k (b ∷ s) h = rw (same_no (kind b) k h)

of_kind_lem : (k : Kind) (b : ℕ) → kind b ≡ k → of_kind k b ≡ true
unfolding of_kind
of_kind_lem k b h = same_yes (kind b) k h

pub runs_more : (b : ℕ) (s : List ℕ) → (kind b ≡ separator → ⊥) → kind_of s ≡ kind b → runs (b ∷ s) ≡ longer b (runs s)
unfolding runs
runs_more b s h k = rw (same_no (kind b) separator h, same_yes (kind_of s) (kind b) k)

pub runs_new : (b : ℕ) (s : List ℕ) → (kind b ≡ separator → ⊥) → (kind_of s ≡ kind b → ⊥)
    → runs (b ∷ s) ≡ run (kind b) (b ∷ []) ∷ runs s
unfolding runs
runs_new b s h k = rw (same_no (kind b) separator h, same_no (kind_of s) (kind b) k)

FirstRun : Kind → List ℕ → Type 0
FirstRun k s = runs s ≡ run k (take (prefix_len (of_kind k) s) s) ∷ runs (drop (prefix_len (of_kind k) s) s)

more_run : (k : Kind) (b : ℕ) (s : List ℕ) → kind b ≡ k → (k ≡ separator → ⊥) → kind_of s ≡ k → FirstRun k s → FirstRun k (b ∷ s)
unfolding longer FirstRun
more_run k b s e h f r =
    runs_more b s (λ z. h (sym e ∙ z)) (f ∙ sym e) ∙ ap (longer b) r
    ∙ ap (λ (n : ℕ). run k (take n (b ∷ s)) ∷ runs (drop n (b ∷ s))) (sym (front_pass (of_kind k) b s (of_kind_lem k b e) ∙ one-add _))

new_run : (k : Kind) (b : ℕ) (s : List ℕ) → kind b ≡ k → (k ≡ separator → ⊥) → (kind_of s ≡ k → ⊥) → FirstRun k (b ∷ s)
unfolding FirstRun
new_run k b s e h f =
    let n : prefix_len (of_kind k) (b ∷ s) ≡ 1 = front_pass (of_kind k) b s (of_kind_lem k b e) ∙ ap (λ (m : ℕ). 1 + m) (front_none k s f) in
    runs_new b s (λ z. h (sym e ∙ z)) (λ z. f (z ∙ e)) ∙ ap (λ (i : Kind). run i (b ∷ []) ∷ runs s) e
    ∙ ap (λ (n : ℕ). run k (take n (b ∷ s)) ∷ runs (drop n (b ∷ s))) (sym n)

first_run : (k : Kind) (s : List ℕ) → kind_of s ≡ k → (k ≡ separator → ⊥) → FirstRun k s
unfolding kind_of
first_run k [] e h = absurd (h (sym e))
first_run k (b ∷ s) e h = go (same_kind (kind_of s) k) refl (λ f. first_run k s f h)
  where
    go : (t : Bool) → same_kind (kind_of s) k ≡ t → (kind_of s ≡ k → FirstRun k s) → FirstRun k (b ∷ s)
    go true f r = more_run k b s e h (kind_same _ _ f) (r (kind_same _ _ f))
    go false f r = new_run k b s e h (kind_other _ _ f)

pub runs_run : (k : Kind) (s : List ℕ) → kind_of s ≡ k → (k ≡ separator → ⊥)
    → runs s ≡ front_run k s ∷ runs (drop (prefix_len (of_kind k) s) s)
unfolding FirstRun front_run
runs_run k s e h = first_run k s e h

pub front_some : (k : Kind) (s : List ℕ) → kind_of s ≡ k → (k ≡ separator → ⊥) → 0 < prefix_len (of_kind k) s
unfolding kind_of
front_some k [] e h = absurd (h (sym e))
front_some k (b ∷ s) e h = omega (arith, front_pass (of_kind k) b s (of_kind_lem k b e))

-- behind the separators in front a run starts, or the text ends
front_stops : (k : Kind) (s : List ℕ) → prefix_len (of_kind k) s < length s → kind_of (drop (prefix_len (of_kind k) s) s) ≡ k → ⊥
unfolding of_kind kind_of
front_stops k [] h e = omega arith
front_stops k (b ∷ s) h e = go (same_kind (kind b) k) refl (front_stops k s) h e
  where
    go : (t : Bool) → same_kind (kind b) k ≡ t
        → (prefix_len (of_kind k) s < length s → kind_of (drop (prefix_len (of_kind k) s) s) ≡ k → ⊥)
        → cond t (1 + prefix_len (of_kind k) s) 0 < suc (length s)
        → kind_of (drop (cond t (1 + prefix_len (of_kind k) s) 0) (b ∷ s)) ≡ k → ⊥
    go true f r h e =
        r (omega arith) (sym (ap (λ (m : ℕ). kind_of (drop m (b ∷ s))) (one-add (prefix_len (of_kind k) s))) ∙ e)
    go false f r h e = kind_other _ _ f e

-- a text that begins with no separator, or has no run
abbrev pub Starts : List ℕ → Type 0
Starts s = kind_of s ≡ separator → runs s ≡ []

pub starts : (s : List ℕ) → Starts (drop (prefix_len (of_kind separator) s) s)
unfolding runs
starts s e = go (leb (length s) (prefix_len (of_kind separator) s)) refl
  where
    go : (t : Bool) → leb (length s) (prefix_len (of_kind separator) s) ≡ t → runs (drop (prefix_len (of_kind separator) s) s) ≡ []
    go true h = rw (drop_of_length-le s {i = prefix_len (of_kind separator) s} (leb-true _ _ h))
    go false h = absurd (front_stops separator s (leb-false _ _ h) e)

-- kinds that differ decide
other_kind : (k l : ℕ) {o : Ordering} → Compared k l o → (k ≡ l → ⊥) → (r q : Ordering) → ordering_then (ordering_then o r) q ≡ o
other_kind k l c n r q = ap (λ (o : Ordering). ordering_then o q) (then_unlike k l c n r) ∙ then_unlike k l c n q

module _ (s t : List ℕ) where
  pub both_run : (k : Kind) → kind_of s ≡ k → kind_of t ≡ k → (k ≡ separator → ⊥)
      → by_text s t
      ≡ ordering_then (by_run (front_run k s) (front_run k t)) (by_text (drop (prefix_len (of_kind k) s) s) (drop (prefix_len (of_kind k) t) t))
  unfolding by_text
  both_run k p q h = ap₂ (slice_cmp by_run) (runs_run k s p h) (runs_run k t q h)

  pub both_end : Starts s → Starts t → kind_of s ≡ separator → kind_of t ≡ separator → by_text s t ≡ Equal
  unfolding by_text
  both_end f g p q = ap₂ (slice_cmp by_run) (f p) (g q)

  pub differ : Starts s → Starts t → (kind_of s ≡ kind_of t → ⊥) → by_text s t ≡ nat_cmp (rank (kind_of s)) (rank (kind_of t))
  unfolding by_text by_run front_run
  differ f g h = go (same_kind (kind_of s) separator) (same_kind (kind_of t) separator) refl refl
    where
      go : (p q : Bool) → same_kind (kind_of s) separator ≡ p → same_kind (kind_of t) separator ≡ q → by_text s t ≡ nat_cmp (rank (kind_of s)) (rank (kind_of t))
      go true true p q = absurd (h (kind_same (kind_of s) separator p ∙ sym (kind_same (kind_of t) separator q)))
      go true false p q =
          ap₂ (slice_cmp by_run) (f (kind_same _ _ p)) (runs_run (kind_of t) t refl (kind_other (kind_of t) separator q))
          ∙ sym (less (rank (kind_of s)) (rank (kind_of t)) (omega (arith, eqb-true (rank (kind_of s)) 0 p, eqb-false (rank (kind_of t)) 0 q)))
      go false true p q =
          ap₂ (slice_cmp by_run) (runs_run (kind_of s) s refl (kind_other (kind_of s) separator p)) (g (kind_same _ _ q))
          ∙ sym (more (rank (kind_of s)) (rank (kind_of t)) (omega (arith, eqb-false (rank (kind_of s)) 0 p, eqb-true (rank (kind_of t)) 0 q)))
      go false false p q =
          ap₂ (slice_cmp by_run) (runs_run (kind_of s) s refl (kind_other _ _ p)) (runs_run (kind_of t) t refl (kind_other _ _ q))
          ∙ other_kind (rank (kind_of s)) (rank (kind_of t)) (compared _ _) (λ e. h (same_rank _ _ e)) _ _
