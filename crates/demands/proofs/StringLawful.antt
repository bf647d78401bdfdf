-- Strings in a row end where there is a zero byte for each: strings_lawful.
use Prim.Native.Nat.{ℕ, zero, suc, ◌+◌, ◌≤◌}
use mathlib.Core.Path.{◌≡◌, refl}
use mathlib.Core.Logic.{◌↔◌}
use mathlib.Core.List.{List}
use mathlib.Core.Bool.{Bool, true, false, cond}
use lib.Dec.{eqb}
use lib.ListN.{get_or}
use native.Mathlib.Omega.{arith}
use Rattle.strings.specs.Strings.{strings_from, is_ended}
use Rattle.demands.specs.Lawful.{zeros_from}

module _ (s : List ℕ) where
  pub strings_lawful : (room at count : ℕ) → (is_ended (strings_from s room at count) ≡ true) ↔ (count ≤ zeros_from s room at)
  unfolding strings_from zeros_from
  strings_lawful room at zero = (λ h. omega arith, λ h. refl)
  strings_lawful zero at (suc count) =
      (λ h. let z : ◌≡◌ {A = ℕ} 0 1 = cc in absurd (omega arith), λ h. absurd (omega arith))
  strings_lawful (suc room) at (suc count) =
      go (eqb (get_or s at 0) 0) (strings_lawful room (at + 1) count) (strings_lawful room (at + 1) (suc count))
    where
      go : (b : Bool) → (is_ended (strings_from s room (at + 1) count) ≡ true) ↔ (count ≤ zeros_from s room (at + 1))
          → (is_ended (strings_from s room (at + 1) (suc count)) ≡ true) ↔ (suc count ≤ zeros_from s room (at + 1))
          → (is_ended (cond b (strings_from s room (at + 1) count) (strings_from s room (at + 1) (suc count))) ≡ true)
          ↔ (suc count ≤ cond b 1 0 + zeros_from s room (at + 1))
      go true f g = (λ h. let l = f.0 h in omega arith, λ l. f.1 (omega arith))
      go false f g = (λ h. let l = g.0 h in omega arith, λ l. g.1 (omega arith))
