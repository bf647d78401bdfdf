-- Stores of a dose (twelve_bytes); doses spelled as bytes (bytes_none, bytes_more), and for callers how much room they take
-- (bytes_room).
use Prim.Native.Nat.{ℕ, ◌+◌, ◌*◌}
use mathlib.Core.Path.{◌≡◌, refl, ◌∙◌}
use mathlib.Core.List.{List, [], ◌∷◌, ◌++◌}
use lib.ListN.{length}
use lib.Seq.{sets}
use native.Mathlib.Omega.{arith}
use Rattle.put.specs.Puts.{bytes_of}
use Rattle.put.proofs.PutLaws.{sets_append}
use Rattle.book.specs.declared.dose.Dose.{Dose}
use Rattle.buffer.specs.Buffer.{numbers_of}
use Rattle.octets.specs.Octets.{bytes_per_number, bytes_per_dose, number_bytes}

pub twelve_bytes : (out : List ℕ) (i : ℕ) (dose : Dose) {o₁ o₂ o₃ : List ℕ} → o₁ ≡ sets out i (bytes_of dose.oxide.0)
    → o₂ ≡ sets o₁ (i + bytes_per_number) (bytes_of dose.milligrams.0) → o₃ ≡ sets o₂ (i + 8) (bytes_of dose.lot.0)
    → o₃ ≡ sets out i (number_bytes (numbers_of (dose ∷ [])))
unfolding numbers_of number_bytes bytes_of
twelve_bytes out i dose p q r =
    r ∙ rw (
      q,
      p,
      ← sets_append out i (bytes_of dose.oxide.0) (bytes_of dose.milligrams.0),
      ← sets_append out i (bytes_of dose.oxide.0 ++ bytes_of dose.milligrams.0) (bytes_of dose.lot.0),
    )

pub bytes_none : number_bytes (numbers_of []) ≡ []
unfolding numbers_of number_bytes bytes_of
bytes_none = refl

pub bytes_more : (out : List ℕ) (i : ℕ) (dose : Dose) (rest : List Dose)
    → sets out i (number_bytes (numbers_of (dose ∷ rest)))
    ≡ sets (sets out i (number_bytes (numbers_of (dose ∷ [])))) (i + bytes_per_dose) (number_bytes (numbers_of rest))
unfolding numbers_of number_bytes bytes_of
bytes_more out i dose rest = sets_append out i (number_bytes (numbers_of (dose ∷ []))) (number_bytes (numbers_of rest))

pub bytes_room : (ns : List ℕ) → length (number_bytes ns) ≡ bytes_per_number * length ns
unfolding number_bytes bytes_of
bytes_room [] = refl
bytes_room (n ∷ rest) = let k = bytes_room rest in omega arith
