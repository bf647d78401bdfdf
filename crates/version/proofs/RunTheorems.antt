-- A text's parts, by kind (kinds, parted), are its runs (kinds_runs), and its runs are such parts (runs_kinds): it is
-- parted in one way, into its runs (runs_exactly). The value of digits by places (value_by_places).
use Prim.Native.Nat.{ℕ, ◌+◌, ◌*◌, ◌-◌, ◌≤◌}
use mathlib.Core.Path.{◌≡◌, refl, sym, ap, ◌∙◌}
use mathlib.Core.Logic.{◌↔◌}
use mathlib.Core.List.{List, [], ◌∷◌, ◌++◌, append-nil}
use mathlib.Core.Bool.{Bool, true, false, cond}
use lib.ListN.{length, get_or}
use native.Mathlib.Omega.{arith}
use Rattle.runs.specs.declared.Kind.{Kind}
use Rattle.runs.specs.Runs.{separator, letter, digit, same_kind, kind, Run, run, value_from}
use Rattle.runs.proofs.KindLaws.{same_yes, kind_same, kind_other}
use Rattle.version.specs.Version.{kind_of, longer, runs}
use Rattle.version.specs.Theorems.{Digit, Letter, Separator, Every, Longest, Parted, RunsExactly, ValueByPlaces}
use Rattle.version.proofs.RunLaws.{runs_more, runs_new}
use Rattle.version.proofs.SortLaws.{Of, digit_of, letter_of, separator_of, Solid, solid, solid_ne}
use Rattle.version.proofs.SortLaws.{every_none, every_cons, every_tail, every_map, longest_map}

-- a text as its longest runs, by the kinds of bytes
data Kinds : List ℕ → List Run → Type 0 where
  none : (sep : List ℕ) → Every (Of separator) sep → Kinds sep []
  part : {k : Kind} (sep bs s : List ℕ) {rs : List Run} → Solid k → Every (Of separator) sep → Longest (Of k) bs s
      → Kinds s rs → Kinds (sep ++ (bs ++ s)) (run k bs ∷ rs)

separating : (sep : List ℕ) → Every Separator sep → Every (Of separator) sep
separating sep h = every_map Separator (Of separator) separator_of sep h

kinds : {s : List ℕ} {rs : List Run} → Parted s rs → Kinds s rs
kinds (Parted.none sep h) = none sep (separating sep h)
kinds (Parted.digits sep ds s h l p) =
    part sep ds s Solid.digits (separating sep h) (longest_map Digit (Of digit) digit_of l) (kinds p)
kinds (Parted.letters sep bs s h l p) =
    part sep bs s Solid.letters (separating sep h) (longest_map Letter (Of letter) letter_of l) (kinds p)

flipped : {P Q : ℕ → Type 0} → ((b : ℕ) → P b ↔ Q b) → (b : ℕ) → Q b ↔ P b
flipped h b = ((h b).1, (h b).0)

separators : (sep : List ℕ) → Every (Of separator) sep → Every Separator sep
separators sep h = every_map (Of separator) Separator (flipped separator_of) sep h

parted : {s : List ℕ} {rs : List Run} → Kinds s rs → Parted s rs
parted (none sep h) = Parted.none sep (separators sep h)
parted (part sep bs s Solid.digits h l p) =
    Parted.digits sep bs s (separators sep h) (longest_map (Of digit) Digit (flipped digit_of) l) (parted p)
parted (part sep bs s Solid.letters h l p) =
    Parted.letters sep bs s (separators sep h) (longest_map (Of letter) Letter (flipped letter_of) l) (parted p)

-- separators in front are passed over
runs_separator : (b : ℕ) (s : List ℕ) → kind b ≡ separator → runs (b ∷ s) ≡ runs s
unfolding runs
runs_separator b s h = rw (same_yes (kind b) separator h)

runs_separators : (sep s : List ℕ) → Every (Of separator) sep → runs (sep ++ s) ≡ runs s
runs_separators [] s h = refl
runs_separators (b ∷ sep) s h =
    runs_separator b (sep ++ s) (h 0 (omega arith)) ∙ runs_separators sep s (every_tail (Of separator) b sep h)

-- behind a run of a kind
ends_other : (k : Kind) (s : List ℕ) → Solid k → (1 ≤ length s → Of k (get_or s 0 0) → ⊥) → kind_of s ≡ k → ⊥
unfolding kind_of
ends_other k [] n h e = solid_ne n (sym e)
ends_other k (b ∷ s) n h e = h (omega arith) e

-- a longest run in front is the first run
runs_longest : (k : Kind) (bs s : List ℕ) → Solid k → Longest (Of k) bs s → runs (bs ++ s) ≡ run k bs ∷ runs s
unfolding kind_of longer
runs_longest k [] s n l = absurd (omega arith)
runs_longest k (b ∷ []) s n l =
    let e : kind b ≡ k = l.all 0 (omega arith) in
    runs_new b s (λ z. solid_ne n (sym e ∙ z)) (λ z. ends_other k s n l.ends (z ∙ e))
    ∙ ap (λ (i : Kind). run i (b ∷ []) ∷ runs s) e
runs_longest k (b ∷ c ∷ bs) s n l =
    let e : kind b ≡ k = l.all 0 (omega arith) in
    runs_more b (c ∷ bs ++ s) (λ z. solid_ne n (sym e ∙ z)) (l.all 1 (omega arith) ∙ sym e)
    ∙ ap (longer b) (runs_longest k (c ∷ bs) s n
    (record { some = omega arith; all = every_tail (Of k) b (c ∷ bs) l.all; ends = l.ends }))

kinds_runs : {s : List ℕ} {rs : List Run} → Kinds s rs → rs ≡ runs s
unfolding runs
kinds_runs (none sep h) = sym (ap runs (sym (append-nil sep)) ∙ runs_separators sep [] h)
kinds_runs (part {k} sep bs s n h l p) =
    sym (runs_separators sep (bs ++ s) h ∙ runs_longest k bs s n l
    ∙ ap (λ (rs : List Run). run k bs ∷ rs) (sym (kinds_runs p)))

-- one byte more in front: a separator, the first byte of a new run, or one of the first run's kind
cons_separator : (b : ℕ) {s : List ℕ} {rs : List Run} → kind b ≡ separator → Kinds s rs → Kinds (b ∷ s) rs
cons_separator b e (none sep h) = none (b ∷ sep) (every_cons (Of separator) b sep e h)
cons_separator b e (part sep bs s n h l p) = part (b ∷ sep) bs s n (every_cons (Of separator) b sep e h) l p

starts_other : (k : Kind) (s : List ℕ) → (kind_of s ≡ k → ⊥) → 1 ≤ length s → Of k (get_or s 0 0) → ⊥
unfolding kind_of
starts_other k [] h l e = omega arith
starts_other k (b ∷ s) h l e = h e

cons_new : (b : ℕ) (s : List ℕ) {rs : List Run} → (kind b ≡ separator → ⊥) → (kind_of s ≡ kind b → ⊥) → Kinds s rs
    → Kinds (b ∷ s) (run (kind b) (b ∷ []) ∷ rs)
cons_new b s n h p =
    part [] (b ∷ []) s (solid b n) (every_none (Of separator))
    (record {
      some = omega arith;
      all = every_cons (Of (kind b)) b [] refl (every_none (Of (kind b)));
      ends = starts_other (kind b) s h;
    })
    p

cons_longer : (b : ℕ) {s : List ℕ} {rs : List Run} → (kind b ≡ separator → ⊥) → kind_of s ≡ kind b → Kinds s rs
    → Kinds (b ∷ s) (longer b rs)
unfolding kind_of longer
cons_longer b n e (none [] h) = absurd (n (sym e))
cons_longer b n e (none (c ∷ sep) h) = absurd (n (sym e ∙ h 0 (omega arith)))
cons_longer b n e (part [] [] s m h l p) = absurd (omega arith)
cons_longer b n e (part {k} [] (c ∷ bs) s m h l p) =
    part [] (b ∷ c ∷ bs) s m h
    (record {
      some = omega arith;
      all = every_cons (Of k) b (c ∷ bs) (sym e ∙ l.all 0 (omega arith)) l.all;
      ends = l.ends;
    })
    p
cons_longer b n e (part (c ∷ sep) bs s m h l p) = absurd (n (sym e ∙ h 0 (omega arith)))

runs_kinds : (s : List ℕ) → Kinds s (runs s)
unfolding runs
runs_kinds [] = none [] (every_none (Of separator))
runs_kinds (b ∷ s) = go (same_kind (kind b) separator) (same_kind (kind_of s) (kind b)) refl refl (runs_kinds s)
  where
    go : (p q : Bool) → same_kind (kind b) separator ≡ p → same_kind (kind_of s) (kind b) ≡ q → Kinds s (runs s)
        → Kinds (b ∷ s) (cond p (runs s) (cond q (longer b (runs s)) (run (kind b) (b ∷ []) ∷ runs s)))
    go true q e f r = cons_separator b (kind_same _ _ e) r
    go false true e f r = cons_longer b (kind_other _ _ e) (kind_same _ _ f) r
    go false false e f r = cons_new b s (kind_other _ _ e) (kind_other _ _ f) r

pub runs_exactly : RunsExactly
runs_exactly s rs = (λ p. kinds_runs (kinds p), λ e. rw e (parted (runs_kinds s)))

value_snoc : (n : ℕ) (ds : List ℕ) (d : ℕ) → value_from n (ds ++ (d ∷ [])) ≡ value_from n ds * 10 + (d - 48)
unfolding value_from
value_snoc n [] d = refl
value_snoc n (e ∷ ds) d = value_snoc (n * 10 + (e - 48)) ds d

pub value_by_places : ValueByPlaces
unfolding value_from
value_by_places = (refl, value_snoc 0)
