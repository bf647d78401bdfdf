-- Stores of a dose in a buffer (three_numbers, of_dose), and a walk that stores the doses at some places of a book, however
-- they are spelled: where it begins, for each turn, and where it ends, with the buffer's room or with the places (begun, turn,
-- last, done; full). For callers: numbers_room.
use Rattle.std.proofs.Common.{ℕ, ◌+◌, ◌*◌, ◌≤◌, ◌≡◌, refl, sym, ◌∙◌, List, [], ◌∷◌, length, map, set, suc, add-one, arith}
use Rattle.std.proofs.lemmas.List.Edits.{sets}
use Rattle.put.proofs.PutLaws.{sets_append, sets_past}
use Rattle.book.specs.declared.dose.Dose.{Dose}
use Rattle.book.specs.Book.{places, dose_at}
use Rattle.book.specs.Doses.{weighed_of, doses}
use Rattle.book.proofs.WeighingLaws.{doses_there}
use Rattle.buffer.specs.Buffer.{numbers_per_dose, numbers_of}

-- o is the oxide, as a number of the buffer
pub three_numbers : (out : List ℕ) (i : ℕ) (dose : Dose) {o : ℕ} {o₁ o₂ o₃ : List ℕ} → o ≡ dose.oxide.0 → o₁ ≡ set out i o
    → o₂ ≡ set o₁ (i + 1) dose.milligrams.0 → o₃ ≡ set o₂ (i + 2) dose.lot.0
    → o₃ ≡ sets out i (numbers_of (dose ∷ []))
unfolding numbers_of
three_numbers out i dose h p q r =
    let k : i + 2 ≡ suc (suc i) = omega arith in
    r ∙ rw (q, p, k, add-one, h)

pub of_dose : (spell : List Dose → List ℕ) (b out : List ℕ) (at i : ℕ) {dose : Dose} {after : List ℕ}
    → dose ≡ dose_at b at → after ≡ sets out i (spell (dose ∷ [])) → after ≡ sets out i (spell (dose_at b at ∷ []))
of_dose spell b out at i d g = g ∙ rw d

-- doses spelled as numbers: none, and one more
pub numbers_none : numbers_of [] ≡ []
unfolding numbers_of
numbers_none = refl

pub numbers_more : (out : List ℕ) (i : ℕ) (dose : Dose) (rest : List Dose)
    → sets out i (numbers_of (dose ∷ rest)) ≡ sets (sets out i (numbers_of (dose ∷ []))) (i + numbers_per_dose) (numbers_of rest)
unfolding numbers_of
numbers_more out i dose rest = sets_append out i (numbers_of (dose ∷ [])) (numbers_of rest)

-- what is left changes nothing where there is no room from i on
pub full : (out left : List ℕ) (i : ℕ) {v : List ℕ} → v ≡ sets out i left → length out ≤ i → out ≡ v
full out left i inv h = sym (inv ∙ sets_past out i left h)

-- v is what the buffer is to be, and that is what it is now, with the doses at the places that are left from i on
module _ (spell : List Dose → List ℕ) (b : List ℕ) where
  pub begun : (out : List ℕ) {ps : List ℕ} → ps ≡ weighed_of b (places b)
      → sets out 0 (spell (doses b)) ≡ sets out 0 (spell (map (dose_at b) ps))
  begun out h = rw (h, doses_there b (places b))

  module _ (width : ℕ) (more : (out : List ℕ) (i : ℕ) (dose : Dose) (rest : List Dose)
      → sets out i (spell (dose ∷ rest)) ≡ sets (sets out i (spell (dose ∷ []))) (i + width) (spell rest)) where
    pub turn : (out : List ℕ) (i : ℕ) {at : ℕ} {ps rest v after : List ℕ}
        → v ≡ sets out i (spell (map (dose_at b) ps)) → ps ≡ at ∷ rest
        → after ≡ sets out i (spell (dose_at b at ∷ [])) → v ≡ sets after (i + width) (spell (map (dose_at b) rest))
    turn out i {at} {rest = rest} inv h g = rw g (inv ∙ rw h (more out i (dose_at b at) (map (dose_at b) rest)))

    pub last : (out : List ℕ) (i : ℕ) {at : ℕ} {ps rest v after : List ℕ}
        → v ≡ sets out i (spell (map (dose_at b) ps)) → ps ≡ at ∷ rest
        → after ≡ sets out i (spell (dose_at b at ∷ [])) → length after ≤ i + width → after ≡ v
    last out i {rest = rest} {after = after} inv h g k =
        full after (spell (map (dose_at b) rest)) (i + width) (turn out i inv h g) k

  pub done : (spell [] ≡ []) → (out : List ℕ) (i : ℕ) {ps v : List ℕ}
      → v ≡ sets out i (spell (map (dose_at b) ps)) → ps ≡ [] → out ≡ v
  done none out i inv h = sym (inv ∙ rw (h, none))

-- for callers: how much room the doses take
pub numbers_room : (ds : List Dose) → length (numbers_of ds) ≡ numbers_per_dose * length ds
unfolding numbers_of
numbers_room [] = refl
numbers_room (dose ∷ rest) = let k = numbers_room rest in omega arith
