-- Tags of which each passes a test, as a loop over them finds it (turn, ends, spent); three tags and what follows them (three).
use Rattle.std.proofs.Common.{ℕ, ◌+◌, ◌<◌, ◌≤◌, ◌≡◌, refl, sym, ◌∙◌, List, [], ◌∷◌, length, get_or, drop, Bool, true, false}
use Rattle.std.proofs.lemmas.List.{at_drop_more, at_drop_all}
use Rattle.std.specs.Prelude.{Err}
use Rattle.format.specs.Verdicts.{check, both, Verdict, pass, refusal}
use Rattle.files.specs.Files.{all_are}

module _ (ok : ℕ → Bool) where
  first : (tag : ℕ) (rest : List ℕ) → all_are ok (tag ∷ rest) ≡ check (ok tag) 17 tag (all_are ok rest)
  unfolding all_are
  first tag rest = refl

  nothing : all_are ok [] ≡ pass
  unfolding all_are
  nothing = refl

  -- v is what the loop began with
  module _ (tags : List ℕ) (i : ℕ) {v : Verdict} (inv : v ≡ all_are ok (drop i tags)) where
    unrolled : i < length tags → v ≡ check (ok (get_or tags i 0)) 17 (get_or tags i 0) (all_are ok (drop (i + 1) tags))
    unrolled l = inv ∙ at_drop_more (all_are ok) tags i 0 l ∙ first (get_or tags i 0) (drop (i + 1) tags)

    pub turn : i < length tags → ok (get_or tags i 0) ≡ true → v ≡ all_are ok (drop (i + 1) tags)
    unfolding check
    turn l h = rw h at (unrolled l)

    pub ends : i < length tags → ok (get_or tags i 0) ≡ false → Err (refusal 17 (get_or tags i 0)) ≡ v
    unfolding check
    ends l h = sym (rw h at (unrolled l))

    pub spent : length tags ≤ i → pass ≡ v
    spent l = sym (inv ∙ at_drop_all (all_are ok) tags i l ∙ nothing)

  pub three : (a b c : ℕ) (rest : Verdict)
      → check (ok a) 17 a (check (ok b) 17 b (check (ok c) 17 c rest)) ≡ both (all_are ok (a ∷ b ∷ c ∷ [])) rest
  unfolding all_are both check
  three a b c rest = go (ok a) (ok b) (ok c)
    where
      go : (x y z : Bool) → check x 17 a (check y 17 b (check z 17 c rest)) ≡ both (check x 17 a (check y 17 b (check z 17 c pass))) rest
      go true true true = refl
      go true true false = refl
      go true false z = refl
      go false y z = refl
