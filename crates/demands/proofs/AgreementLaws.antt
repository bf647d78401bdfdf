-- Two verdicts on one package, of an earlier and a later edition, are related where they are equal, or the earlier is excused,
-- or the later is (Related). `both` keeps that (same_first, agree_both), so it holds of a run of checks where it holds of each
-- part.
use mathlib.Core.Path.{◌≡◌, refl, subst}
use mathlib.Core.Logic.{⊎_map, ◌⊎◌, inl, inr}
use Rattle.format.specs.Verdicts.{both, Verdict}
use Rattle.std.specs.Prelude.{Ok, Err}

module _ (Early Late : Verdict → Type 0) where
  abbrev pub Related : Verdict → Verdict → Type 0
  Related v w = (v ≡ w) ⊎ (Early v ⊎ Late w)

  pub same_first : (a b b' : Verdict) → Related b b' → Related (both a b) (both a b')
  unfolding both
  same_first (Ok _) b b' q = q
  same_first (Err e) b b' q = inl refl

  -- what is excused is a refusal, so what comes after it changes nothing
  module _ (early_stays : (v w : Verdict) → Early v → Early (both v w))
      (late_stays : (v w : Verdict) → Late v → Late (both v w)) where
    pub agree_both : (a a' b b' : Verdict) → Related a a' → Related b b' → Related (both a b) (both a' b')
    agree_both a a' b b' (inl e) q = subst (λ (x : Verdict). Related (both a b) (both x b')) e (same_first a b b' q)
    agree_both a a' b b' (inr x) q = inr (⊎_map (early_stays a b) (late_stays a' b') x)
