-- The bytes of oxide and milligrams are those that a record's body begins with: the digits of a number that is made of bytes
-- (oxide_bytes, milligrams_bytes), and the stores of a dose (copied).
use Prim.Native.Nat.{ℕ, ◌+◌, ◌*◌, ◌/◌, ◌%◌, ◌<◌}
use mathlib.Core.Path.{◌≡◌, ap, ◌∙◌}
use mathlib.Core.List.{List, [], ◌∷◌}
use lib.ListN.{get_or}
use lib.Seq.{sets}
use native.Mathlib.Omega.{arith}
use Rattle.put.specs.Puts.{bytes_of}
use Rattle.book.specs.declared.dose.Lot.{Lot}
use Rattle.book.specs.Book.{dose_at}
use Rattle.book.proofs.DoseLaws.{oxide_joined, milligrams_joined}
use Rattle.buffer.specs.Buffer.{numbers_of}
use Rattle.octets.specs.Octets.{number_bytes}
use Rattle.octets.proofs.OctetLaws.{twelve_bytes}

oxide_bytes : (a b : ℕ) → a < 256 → b < 256 → bytes_of (a * 256 + b) ≡ 0 ∷ 0 ∷ a ∷ b ∷ []
unfolding bytes_of
oxide_bytes a b p q =
    let k₁ : (a * 256 + b) / 16777216 % 256 ≡ 0 = omega arith in
    let k₂ : (a * 256 + b) / 65536 % 256 ≡ 0 = omega arith in
    let k₃ : (a * 256 + b) / 256 % 256 ≡ a = omega arith in
    let k₄ : (a * 256 + b) % 256 ≡ b = omega arith in
    rw (k₁, k₂, k₃, k₄)

milligrams_bytes : (a b c d : ℕ) → a < 256 → b < 256 → c < 256 → d < 256
    → bytes_of (a * 16777216 + b * 65536 + c * 256 + d) ≡ a ∷ b ∷ c ∷ d ∷ []
unfolding bytes_of
milligrams_bytes a b c d p q r s =
    let n : ℕ = a * 16777216 + b * 65536 + c * 256 + d in
    let k₁ : n / 16777216 % 256 ≡ a = omega arith in
    let k₂ : n / 65536 % 256 ≡ b = omega arith in
    let k₃ : n / 256 % 256 ≡ c = omega arith in
    let k₄ : n % 256 ≡ d = omega arith in
    rw (k₁, k₂, k₃, k₄)

pub copied : (b : List ℕ) → ((k : ℕ) → get_or b k 0 < 256) → (out : List ℕ) (at i : ℕ) {o₁ o₂ o₃ : List ℕ} {lot : Lot}
    → o₁ ≡ sets out i (0 ∷ 0 ∷ get_or b (at + 1) 0 ∷ get_or b (at + 2) 0 ∷ [])
    → o₂ ≡ sets o₁ (i + 4) (get_or b (at + 3) 0 ∷ get_or b (at + 4) 0 ∷ get_or b (at + 5) 0 ∷ get_or b (at + 6) 0 ∷ [])
    → lot ≡ (dose_at b at).lot → o₃ ≡ sets o₂ (i + 8) (bytes_of lot.0)
    → o₃ ≡ sets out i (number_bytes (numbers_of (dose_at b at ∷ [])))
copied b byte out at i p q e r =
    twelve_bytes out i (dose_at b at) (p ∙ rw oxide) (q ∙ rw milligrams) (r ∙ rw e)
  where
    oxide : bytes_of (dose_at b at).oxide.0 ≡ 0 ∷ 0 ∷ get_or b (at + 1) 0 ∷ get_or b (at + 2) 0 ∷ []
    oxide =
        let k : at + 2 ≡ at + 1 + 1 = omega arith in
        rw k (ap bytes_of (oxide_joined b at) ∙ oxide_bytes _ _ (byte _) (byte _))

    milligrams : bytes_of (dose_at b at).milligrams.0
        ≡ get_or b (at + 3) 0 ∷ get_or b (at + 4) 0 ∷ get_or b (at + 5) 0 ∷ get_or b (at + 6) 0 ∷ []
    milligrams =
        let k₁ : at + 4 ≡ at + 3 + 1 = omega arith in
        let k₂ : at + 5 ≡ at + 3 + 2 = omega arith in
        let k₃ : at + 6 ≡ at + 3 + 3 = omega arith in
        rw (k₁, k₂, k₃) (ap bytes_of (milligrams_joined b at) ∙ milligrams_bytes _ _ _ _ (byte _) (byte _) (byte _) (byte _))
