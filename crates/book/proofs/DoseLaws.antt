-- A dose from the numbers that were read (read, past), and its lot (lot_here, no_lot_lem, lot_past). For callers: its
-- numbers by the book's bytes (oxide_joined, milligrams_joined).
use Prim.Native.Nat.{ℕ, ◌+◌, ◌*◌, ◌≤◌}
use mathlib.Core.Path.{◌≡◌, refl, ap, ◌∙◌}
use mathlib.Core.List.{List}
use lib.ListN.{length, get_or, get_or-eq_default}
use native.Mathlib.Omega.{arith}
use borrow.Author.Tests.{ne_eqb}
use Rattle.be.specs.Numbers.{be16_at, be32_at}
use Rattle.be.proofs.ByteLaws.{be16_past, be32_past}
use Rattle.book.specs.declared.dose.Dose.{Dose}
use Rattle.book.specs.declared.dose.Lot.{Lot}
use Rattle.book.specs.Book.{kind_at, oxide_place, milligrams_place, dose_at}
use Rattle.book.proofs.KindLaws.{lot_of}

-- the lot of the record at a place: that of kind AA, and none past the end
pub lot_here : (b : List ℕ) (at : ℕ) {n : ℕ} → kind_at b at ≡ 0xAA → n ≡ be32_at b (at + 7)
    → ◌≡◌ {A = Lot} (record { 0 = n }) (dose_at b at).lot
lot_here b at h q = rw (lot_of (kind_at b at) b at, h, q)

pub no_lot_lem : (b : List ℕ) (at : ℕ) → (kind_at b at ≡ 0xAA → ⊥) → ◌≡◌ {A = Lot} (record { 0 = 0 }) (dose_at b at).lot
no_lot_lem b at h = rw (lot_of (kind_at b at) b at, ne_eqb (kind_at b at) 0xAA h)

pub lot_past : (b : List ℕ) (at : ℕ) → length b ≤ at → ◌≡◌ {A = Lot} (record { 0 = 0 }) (dose_at b at).lot
lot_past b at h = no_lot_lem b at (λ e. let z = get_or-eq_default b 0 h in omega arith)

pub read : (b : List ℕ) (at : ℕ) {o m : ℕ} {l : Lot} → o ≡ be16_at b (at + oxide_place) → m ≡ be32_at b (at + milligrams_place)
    → l ≡ (dose_at b at).lot
    → ◌≡◌ {A = Dose} (record { oxide = record { 0 = o }; milligrams = record { 0 = m }; lot = l }) (dose_at b at)
read b at p q e = rw (p, q, e)

pub past : (b : List ℕ) (at : ℕ) {dose : Dose} → length b ≤ at → dose.oxide.0 ≡ 0 → dose.milligrams.0 ≡ 0 → dose.lot.0 ≡ 0
    → dose ≡ dose_at b at
past b at h p q r =
    read b at (p ∙ be16_past b (at + oxide_place) (omega arith)) (q ∙ be32_past b (at + milligrams_place) (omega arith))
    (ap {B = Lot} (λ (n : ℕ). record { 0 = n }) r ∙ lot_past b at h)

pub oxide_joined : (b : List ℕ) (at : ℕ)
    → (dose_at b at).oxide.0 ≡ get_or b (at + oxide_place) 0 * 256 + get_or b (at + oxide_place + 1) 0
unfolding be16_at
oxide_joined b at = refl

pub milligrams_joined : (b : List ℕ) (at : ℕ)
    → (dose_at b at).milligrams.0 ≡ get_or b (at + milligrams_place) 0 * 16777216 + get_or b (at + milligrams_place + 1) 0 * 65536
    + get_or b (at + milligrams_place + 2) 0 * 256 + get_or b (at + milligrams_place + 3) 0
unfolding be32_at
milligrams_joined b at = refl
