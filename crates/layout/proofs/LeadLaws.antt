-- The lead from its parts: name_put, lead_put; how long they are: name_length, lead_length.
use Prim.Native.Nat.{ℕ, ◌-◌, ◌≤◌}
use mathlib.Core.Path.{◌≡◌, refl, ap, ◌∙◌}
use mathlib.Core.List.{List, [], ◌∷◌, ◌++◌}
use lib.ListN.{length, take, drop, length-append, length-replicate, length-take}
use lib.Seq.{sets}
use native.Mathlib.Omega.{arith}
use Rattle.put.specs.Puts.{bytes_of, zeros}
use Rattle.put.proofs.PutLaws.{behind}
use Rattle.layout.specs.Layout.{name_field, name_bytes, lead_bytes}

-- the part of a name that the lead shows
pub shown_short : (name : List ℕ) {shown : List ℕ} → shown ≡ take name_field (drop 0 name) → length shown ≤ name_field
shown_short name h = let e = ap length h ∙ length-take name_field (drop 0 name) in omega arith

pub name_put : (out name : List ℕ) {shown o : List ℕ} → shown ≡ take name_field (drop 0 name)
    → o ≡ sets out 10 (shown ++ zeros (name_field - length shown)) → o ≡ sets out 10 (name_bytes name)
name_put out name {shown} h p =
    let e = ap length h ∙ length-take name_field name in
    let f : name_field - length shown ≡ name_field - length name = omega arith in
    p ∙ rw (f, h)

pub name_length : (name : List ℕ) → length (name_bytes name) ≡ name_field
name_length name =
    let a = length-append (take name_field name) (zeros (name_field - length name)) in
    let b = length-take name_field name in
    let c = length-replicate {A = ℕ} (name_field - length name) 0 in
    omega arith

pub lead_length : (name : List ℕ) → length (lead_bytes name) ≡ 96
unfolding lead_bytes bytes_of
lead_length name =
    let a = name_length name in
    let b = length-append (name_bytes name) ((0 ∷ 1 ∷ 0 ∷ 5 ∷ []) ++ zeros 16) in
    omega arith

pub lead_put : (out name : List ℕ) {o₁ o₂ o₃ o₄ o₅ o₆ : List ℕ} → o₁ ≡ sets out 0 (bytes_of 0xEDABEEDB)
    → o₂ ≡ sets o₁ 4 (bytes_of 0x03000000) → o₃ ≡ sets o₂ 8 (zeros 2) → o₄ ≡ sets o₃ 10 (name_bytes name)
    → o₅ ≡ sets o₄ 76 (bytes_of 0x00010005) → o₆ ≡ sets o₅ 80 (zeros 16) → o₆ ≡ sets out 0 (lead_bytes name)
unfolding lead_bytes bytes_of
lead_put out name {o₁} {o₂} {o₃} {o₄} a b c d f g =
    let z = name_length name in
    let front : o₃ ≡ sets out 0 (bytes_of 0xEDABEEDB ++ (3 ∷ 0 ∷ 0 ∷ 0 ∷ 0 ∷ 0 ∷ [])) =
    behind out 0 (bytes_of 0xEDABEEDB ++ bytes_of 0x03000000) (zeros 2)
    (behind out 0 (bytes_of 0xEDABEEDB) (bytes_of 0x03000000) a b refl) c refl in
    let back = behind o₄ 76 (bytes_of 0x00010005) (zeros 16) f g refl in
    behind out 0 (bytes_of 0xEDABEEDB ++ (3 ∷ 0 ∷ 0 ∷ 0 ∷ 0 ∷ 0 ∷ [])) (name_bytes name ++ (bytes_of 0x00010005 ++ zeros 16)) front
    (behind o₃ 10 (name_bytes name) (bytes_of 0x00010005 ++ zeros 16) d back (omega arith)) refl
