-- The book's records at two sets of kinds: equal verdicts, or the earlier stops with 20 at the first record that it lacks.
use Prim.Native.Nat.{ℕ}
use mathlib.Core.Path.{◌≡◌, refl, sym}
use mathlib.Core.Logic.{◌⊎◌, inl, inr}
use mathlib.Core.List.{List, [], ◌∷◌}
use mathlib.Core.Bool.{Bool, true, false, cond, not, ◌&&◌}
use native.Mathlib.Omega.{arith}
use Rattle.format.specs.Verdicts.{check, both, Verdict, pass, refusal}
use Rattle.format.proofs.VerdictLaws.{both_fail, both_inverted, inverted}
use Rattle.book.specs.Kinds.{is_weighed}
use Rattle.book.specs.Book.{kind_at, record_check, records_check}
use Rattle.demands.specs.Editions.{First, NoneLacks, lacks, first_lacking}
use Rattle.std.specs.Prelude.{Ok, Err}

-- a kind that is lacked is not allowed, and any other is
not_allowed : (w k : Bool) → (w && not k) ≡ true → cond w k true ≡ false
not_allowed true true h = let z : ◌≡◌ {A = ℕ} 0 1 = cc in absurd (omega arith)
not_allowed true false h = refl
not_allowed false k h = let z : ◌≡◌ {A = ℕ} 0 1 = cc in absurd (omega arith)

allowed : (w k : Bool) → (w && not k) ≡ false → cond w k true ≡ true
allowed true true h = refl
allowed true false h = let z : ◌≡◌ {A = ℕ} 0 1 = cc in absurd (omega arith)
allowed false k h = refl

-- and stays allowed where more is known
allowed_more : (w k k' : Bool) → (k ≡ true → k' ≡ true) → cond w k true ≡ true → cond w k' true ≡ true
allowed_more true k k' f h = f h
allowed_more false k k' f h = refl

module _ (earlier later : ℕ → Bool) (keeps : (kind : ℕ) → earlier kind ≡ true → later kind ≡ true) (b : List ℕ) where
  lacking_stops : (at : ℕ) → lacks earlier (kind_at b at) ≡ true → record_check earlier b at ≡ Err (refusal 20 at)
  unfolding record_check check
  lacking_stops at h = rw (not_allowed (is_weighed (kind_at b at)) (earlier (kind_at b at)) h)

  known_same : (at : ℕ) → lacks earlier (kind_at b at) ≡ false → record_check earlier b at ≡ record_check later b at
  unfolding record_check
  known_same at h =
      let k = allowed (is_weighed (kind_at b at)) (earlier (kind_at b at)) h in
      let k' = allowed_more (is_weighed (kind_at b at)) (earlier (kind_at b at)) (later (kind_at b at)) (keeps (kind_at b at)) k in
      rw (k, k')

  -- one record more in front
  in_front : (at : ℕ) (rest : List ℕ) (v : Verdict) (p : ℕ) → record_check earlier b at ≡ v → record_check later b at ≡ v
      → lacks earlier (kind_at b at) ≡ false
      → records_check earlier b rest ≡ Err (refusal 20 p) → first_lacking earlier b rest ≡ First p
      → (records_check earlier b (at ∷ rest) ≡ records_check later b (at ∷ rest))
      ⊎ ((p : ℕ) × (records_check earlier b (at ∷ rest) ≡ Err (refusal 20 p)) × (first_lacking earlier b (at ∷ rest) ≡ First p))
  unfolding records_check first_lacking both
  in_front at rest (Ok _) p e l n h f = inr (p, rw e h, rw n f)
  in_front at rest (Err refused) p e l n h f = inl (rw (e, l))

  pub records_agree : (places : List ℕ)
      → (records_check earlier b places ≡ records_check later b places)
      ⊎ ((p : ℕ) × (records_check earlier b places ≡ Err (refusal 20 p)) × (first_lacking earlier b places ≡ First p))
  unfolding records_check first_lacking
  records_agree [] = inl refl
  records_agree (at ∷ rest) = go (lacks earlier (kind_at b at)) refl (records_agree rest)
    where
      go : (x : Bool) → lacks earlier (kind_at b at) ≡ x
          → (records_check earlier b rest ≡ records_check later b rest)
          ⊎ ((p : ℕ) × (records_check earlier b rest ≡ Err (refusal 20 p)) × (first_lacking earlier b rest ≡ First p))
          → (both (record_check earlier b at) (records_check earlier b rest) ≡ both (record_check later b at) (records_check later b rest))
          ⊎ ((p : ℕ) × (both (record_check earlier b at) (records_check earlier b rest) ≡ Err (refusal 20 p))
          × (cond (lacks earlier (kind_at b at)) (First at) (first_lacking earlier b rest) ≡ First p))
      go true h q = inr (at, both_fail _ (lacking_stops at h), rw h)
      go false h (inl e) = inl (rw (known_same at h, e))
      go false h (inr (p, e, f)) = in_front at rest (record_check earlier b at) p refl (sym (known_same at h)) h e f

unlacked : (w x : Bool) → cond w x true ≡ true → (w && not x) ≡ false
unlacked true true e = refl
unlacked true false e = let z : ◌≡◌ {A = ℕ} 0 1 = cc in absurd (omega arith)
unlacked false x e = refl

not_lacked : (known : ℕ → Bool) (b : List ℕ) (at : ℕ) → record_check known b at ≡ pass → lacks known (kind_at b at) ≡ false
unfolding record_check
not_lacked known b at e = unlacked (is_weighed (kind_at b at)) (known (kind_at b at)) (inverted _ _ _ _ e).0

-- a book that passed lacks nothing
pub passed_none : (known : ℕ → Bool) (b places : List ℕ) → records_check known b places ≡ pass
    → first_lacking known b places ≡ NoneLacks
unfolding records_check first_lacking
passed_none known b [] h = refl
passed_none known b (at ∷ rest) h =
    let k = both_inverted _ _ h in
    rw (not_lacked known b at k.0) (passed_none known b rest k.1)
