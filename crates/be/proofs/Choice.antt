-- A choice by a test is one of its two sides.

use mathlib.Core.Path.{◌≡◌}
use mathlib.Core.Logic.{◌⊎◌, inl, inr}
use mathlib.Core.Bool.{Bool, true, false, cond}

pub pick {ℓ} : {A : Type ℓ} (b : Bool) (x y : A) {v : A} → cond b x y ≡ v → (x ≡ v) ⊎ (y ≡ v)
pick true x y h = inl h
pick false x y h = inr h
