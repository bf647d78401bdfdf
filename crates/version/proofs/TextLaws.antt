-- A turn of the comparison of two texts, in the shape of what the code knows: where a step over separators ends (skips), the
-- kind in front (kind_here, kind_over), the ends of the runs in front (met_fits), and what the next runs decide
-- (text_kinds to shorter).
use Rattle.std.proofs.Common.{◌≡◌, ℕ, ◌-◌, ◌≤◌, ◌<◌, List, [], ◌∷◌, length, take, drop, get_or, Result, Ok, Err, IfOk}
use Rattle.std.proofs.Common.{Ordering, Less, Equal, Greater, nat_cmp, refl, sym, ap, ap₂, ◌∙◌, arith, length-drop}
use Rattle.std.proofs.lemmas.List.Sums.{prefix_len-le-length}
use Rattle.std.specs.Cmp.Lexicographic.{slice_cmp}
use Rattle.std.specs.List.{prefix_len}
use Rattle.std.specs.Ordering.{ordering_then}
use Rattle.runs.specs.declared.Kind.{Kind}
use Rattle.runs.specs.Runs.{separator, rank, kind, of_kind, front_run, by_run, met_as, met}
use Rattle.runs.proofs.OrderLaws.{then_equal, then_other}
use Rattle.runs.proofs.FrontLaws.{part_rest}
use Rattle.version.specs.Version.{kind_of, runs, by_text}
use Rattle.version.specs.Steps.{Skips}
use Rattle.version.proofs.RunLaws.{runs_skip, starts, both_run, both_end, differ, front_some}

-- the part of a text behind n bytes
abbrev pub behind : ℕ → List ℕ → List ℕ
behind n s = take (length s - n) (drop n s)

-- a step over separators
pub skips : (s : List ℕ) {n : ℕ} → n ≡ prefix_len (of_kind separator) s → Skips s (behind n s)
skips s {n} e =
    let d : behind n s ≡ drop (prefix_len (of_kind separator) s) s = part_rest s n ∙ ap (λ (m : ℕ). drop m s) e in
    record {
      fits = omega (arith, ap (length {A = ℕ}) d, length-drop (prefix_len (of_kind separator) s) s);
      same = ap runs d ∙ runs_skip s;
      starts = λ z. ap runs d ∙ starts s (ap kind_of (sym d) ∙ z);
    }

-- the kind of the first byte
pub kind_here : (s : List ℕ) {r : Kind} → 0 < length s → r ≡ kind (get_or s 0 0) → r ≡ kind_of s
unfolding kind_of
kind_here [] h e = absurd (omega arith)
kind_here (b ∷ s) h e = e

pub kind_over : (s : List ℕ) → length s ≤ 0 → separator ≡ kind_of s
unfolding kind_of
kind_over [] h = refl
kind_over (b ∷ s) h = absurd (omega arith)

-- what an answer says of the order
err_is : (o : Ordering) (m n : ℕ) {p : Ordering} → met_as o m n ≡ Err p → (o ≡ p) × (o ≡ Equal → ⊥)
err_is Less m n h = (grind arith, λ e. grind arith)
err_is Equal m n h = absurd (grind arith)
err_is Greater m n h = (grind arith, λ e. grind arith)

ok_is : (o : Ordering) (m n : ℕ) {a b : ℕ} → met_as o m n ≡ Ok (a, b) → (o ≡ Equal) × (m ≡ a) × (n ≡ b)
ok_is Less m n h = absurd (grind arith)
ok_is Equal m n h = (refl, grind arith, grind arith)
ok_is Greater m n h = absurd (grind arith)

-- the ends of runs that are the same
pub met_fits : (k : Kind) (a b : List ℕ) {r : Result (ℕ × ℕ) Ordering} → r ≡ met k a b
    → IfOk r (λ p. (p.0 ≤ length a) × (p.1 ≤ length b))
unfolding met
met_fits k a b e = rw e (go (by_run (front_run k a) (front_run k b)))
  where
    go : (o : Ordering)
        → IfOk (met_as o (prefix_len (of_kind k) a) (prefix_len (of_kind k) b)) (λ p. (p.0 ≤ length a) × (p.1 ≤ length b))
    go Less = tt
    go Equal = (prefix_len-le-length (of_kind k) a, prefix_len-le-length (of_kind k) b)
    go Greater = tt

same_runs : (a b c d : List ℕ) → runs a ≡ runs b → runs c ≡ runs d → by_text a c ≡ by_text b d
unfolding by_text
same_runs a b c d h k = ap₂ (slice_cmp by_run) h k

-- one turn: the texts s and t, and a and b from their next runs on
module _ {s t a b : List ℕ} {k l : Kind} {o : Ordering} (inv : o ≡ by_text s t)
    (x : Skips s a) (y : Skips t b) (f : k ≡ kind_of a) (g : l ≡ kind_of b) where
  skipped : o ≡ by_text a b
  skipped = inv ∙ same_runs _ _ _ _ (sym x.same) (sym y.same)

  pub text_kinds : (k ≡ l → ⊥) → nat_cmp (rank k) (rank l) ≡ o
  text_kinds h =
      ap₂ (λ (i j : Kind). nat_cmp (rank i) (rank j)) f g
      ∙ sym (skipped ∙ differ a b x.starts y.starts (λ e. h (f ∙ e ∙ sym g)))

  pub text_end : k ≡ l → k ≡ separator → Equal ≡ o
  text_end h e = sym (skipped ∙ both_end a b x.starts y.starts (sym f ∙ e) (sym g ∙ sym h ∙ e))

  module _ (h : k ≡ l) (z : k ≡ separator → ⊥) {r : Result (ℕ × ℕ) Ordering} (e : r ≡ met k a b) where
    turn : o ≡ ordering_then (by_run (front_run k a) (front_run k b))
        (by_text (drop (prefix_len (of_kind k) a) a) (drop (prefix_len (of_kind k) b) b))
    turn = skipped ∙ both_run a b k (sym f) (sym g ∙ sym h) z

    answered : met_as (by_run (front_run k a) (front_run k b)) (prefix_len (of_kind k) a) (prefix_len (of_kind k) b) ≡ r
    unfolding met
    answered = sym e

    pub run_differ : {p : Ordering} → r ≡ Err p → p ≡ o
    run_differ d =
        let w = err_is (by_run (front_run k a) (front_run k b)) _ _ (answered ∙ d) in
        sym (turn ∙ then_other _ w.1 ∙ w.0)

    module _ {m n : ℕ} (d : r ≡ Ok (m, n)) where
      ends : (by_run (front_run k a) (front_run k b) ≡ Equal) × (prefix_len (of_kind k) a ≡ m) × (prefix_len (of_kind k) b ≡ n)
      ends = ok_is (by_run (front_run k a) (front_run k b)) _ _ (answered ∙ d)

      pub run_same : o ≡ by_text (behind m a) (behind n b)
      run_same =
          let w = ends in
          turn ∙ then_equal _ w.0
          ∙ ap₂ by_text (ap (λ (i : ℕ). drop i a) w.1 ∙ sym (part_rest a m)) (ap (λ (i : ℕ). drop i b) w.2 ∙ sym (part_rest b n))

      pub shorter : length (behind m a) < length s
      shorter =
          let w = ends in
          let i = x.fits in
          omega (arith, ap (length {A = ℕ}) (part_rest a m), length-drop m a, front_some k a (sym f) z, prefix_len-le-length (of_kind k) a)
