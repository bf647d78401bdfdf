-- The lead that was written: it passes check 4 (lead_pass), and its name is the name (lead_name).
use Prim.Native.Nat.{ℕ, zero, suc, ◌+◌, ◌-◌, ◌<◌}
use mathlib.Core.Path.{◌≡◌, sym, ◌∙◌}
use mathlib.Core.Logic.{◌≢◌}
use mathlib.Core.List.{List, [], ◌∷◌, ◌++◌}
use mathlib.Core.Bool.{true}
use lib.ListN.{length, get_or, take, drop, length-replicate, get_or-replicate}
use lib.Seq.{take_all}
use native.Mathlib.Omega.{arith}
use Rattle.be.specs.Numbers.{be16_at}
use Rattle.strings.specs.Strings.{strings_from, is_ended, next_zero}
use Rattle.strings.proofs.StringLaws.{first_here, first_later}
use Rattle.strings.proofs.RowLaws.{single_among}
use Rattle.format.specs.Lead.{lead_of}
use Rattle.format.specs.Verdicts.{check, pass}
use Rattle.package.specs.Lead.{lead_check}
use Rattle.put.specs.Puts.{bytes_of, zeros}
use Rattle.layout.specs.Layout.{name_bytes, lead_bytes}
use Rattle.layout.proofs.LeadLaws.{name_length}
use Rattle.roundtrip.specs.Lawful.{LawfulName}
use Rattle.roundtrip.proofs.HoldsLaws.{Holds, front, rest, moved, part, number, byte}

-- the first zero byte, j bytes behind a place
first_zero : (s : List ℕ) (room at j : ℕ) → j < room → get_or s (at + j) 0 ≡ 0
    → ((i : ℕ) → i < j → get_or s (at + i) 0 ≢ 0) → at + j ≡ next_zero s room at
first_zero s zero at j l z n = absurd (omega arith)
first_zero s (suc room) at zero l z n = let e : at + 0 ≡ at = omega arith in rw e (first_here s room at (rw e at z))
first_zero s (suc room) at (suc j) l z n =
    let e : at + 0 ≡ at = omega arith in
    let g : at + suc j ≡ at + 1 + j = omega arith in
    rw g
    (first_later s room at (rw e at (n 0 (omega arith)))
    (first_zero s room (at + 1) j (omega arith) (rw g at z)
    (λ i k. let v : at + suc i ≡ at + 1 + i = omega arith in rw v at (n (suc i) (omega arith)))))

-- in front of the name, and behind it
abbrev fixed : List ℕ
fixed = bytes_of 0xEDABEEDB ++ (3 ∷ 0 ∷ 0 ∷ 0 ∷ 0 ∷ 0 ∷ [])

abbrev system : List ℕ
system = (0 ∷ 1 ∷ 0 ∷ 5 ∷ []) ++ zeros 16

module _ (name : List ℕ) (lawful : LawfulName name) where
  name_whole : take 66 name ≡ name
  name_whole = let w = lawful.within in take_all 66 name (omega arith)

  module _ (p : List ℕ) (h : Holds p 0 (lead_bytes name)) where
    parts : Holds p 0 (fixed ++ (name_bytes name ++ system))
    unfolding lead_bytes
    parts = h

    fixed_here : Holds p 0 fixed
    fixed_here = front fixed (name_bytes name ++ system) parts

    behind_fixed : Holds p 10 (name_bytes name ++ system)
    unfolding bytes_of
    behind_fixed = moved (omega arith) (rest fixed (name_bytes name ++ system) parts)

    system_here : Holds p 76 system
    system_here = let e = name_length name in moved (omega arith) (rest (name_bytes name) system behind_fixed)

    field_here : Holds p 10 (name ++ zeros (66 - length name))
    field_here = rw name_whole at (front (name_bytes name) system behind_fixed)

    name_here : Holds p 10 name
    name_here = front name (zeros (66 - length name)) field_here

    behind_name : get_or p (10 + length name) 0 ≡ 0
    behind_name =
        let k = 66 - length name in
        let c = length-replicate {A = ℕ} k 0 in
        let w = lawful.within in
        let e : 10 + length name + 0 ≡ 10 + length name = omega arith in
        rw e at (byte (rest name (zeros k) field_here) 0 (omega arith) ∙ get_or-replicate k 0 0 0 (omega arith))

    is_named : is_ended (strings_from p 66 10 1) ≡ true
    is_named =
        let w = lawful.within in
        (single_among p 66 10).1 (10 + length name, omega arith, omega arith, behind_name)

    pub lead_pass : lead_check (lead_of p) ≡ pass
    unfolding lead_check check be16_at bytes_of
    lead_pass =
        let m = number 0xEDABEEDB (omega arith) (front (bytes_of 0xEDABEEDB) (3 ∷ 0 ∷ 0 ∷ 0 ∷ 0 ∷ 0 ∷ []) fixed_here) in
        let b4 : get_or p 4 0 ≡ 3 = byte fixed_here 4 (omega arith) in
        let b5 : get_or p 5 0 ≡ 0 = byte fixed_here 5 (omega arith) in
        let b6 : get_or p 6 0 ≡ 0 = byte fixed_here 6 (omega arith) in
        let b7 : get_or p 7 0 ≡ 0 = byte fixed_here 7 (omega arith) in
        let b76 : get_or p 76 0 ≡ 0 = byte system_here 0 (omega arith) in
        let b77 : get_or p 77 0 ≡ 1 = byte system_here 1 (omega arith) in
        let b78 : get_or p 78 0 ≡ 0 = byte system_here 2 (omega arith) in
        let b79 : get_or p 79 0 ≡ 5 = byte system_here 3 (omega arith) in
        rw (m, b4, b5, b6, b7, is_named, b76, b77, b78, b79)

    pub lead_name : take (next_zero p 66 10 - 10) (drop 10 p) ≡ name
    lead_name =
        let w = lawful.within in
        let e : 10 + length name - 10 ≡ length name = omega arith in
        let z =
        first_zero p 66 10 (length name) (omega arith) behind_name
        (λ i l q. lawful.nonzero i l (sym (byte name_here i l) ∙ q)) in
        rw (← z, e) (part name_here)
