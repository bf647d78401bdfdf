-- `same_bytes` is equality.
use Rattle.std.proofs.Common.{◌≡◌, ℕ, true, List, refl}
use Rattle.std.proofs.lemmas.Slice.Eq.{bytes_eq-Decides}
use Rattle.be.specs.Bytes.{same_bytes}

pub same_eq : (s t : List ℕ) → same_bytes s t ≡ true → s ≡ t
unfolding same_bytes
same_eq s t h = (bytes_eq-Decides s t).0 h

pub same_refl : (s : List ℕ) → same_bytes s s ≡ true
unfolding same_bytes
same_refl s = (bytes_eq-Decides s s).1 refl
