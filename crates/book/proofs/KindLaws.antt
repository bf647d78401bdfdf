-- Known kinds and their bodies: held, held_if, each_kind, six, lot_of. For callers, kinds_kept: a later edition has the
-- bodies of an earlier one.
use Prim.Native.Nat.{ℕ, ◌+◌, ◌≤◌}
use mathlib.Core.Path.{◌≡◌, refl}
use mathlib.Core.List.{List, [], ◌∷◌}
use mathlib.Core.Bool.{Bool, true, false, cond}
use lib.Dec.{eqb, leb}
use native.Mathlib.Omega.{arith}
use borrow.Author.Tests.{le-leb, leb-true, eqb-true}
use Rattle.be.specs.Numbers.{be32_at}
use Rattle.book.specs.Kinds.{is_weighed, body_size, Part, Oxide, Milligrams, Lot, Body, Unknown, Holds, is_held}
use Rattle.book.specs.Kinds.{KindRow, kind_table, kinds_in, kinds_of, is_known, last_edition}
use Rattle.book.specs.Book.{lot_from, lot_in}

-- a kind that is known is known by its body
pub held : (body : Body) → is_held body ≡ true → (parts : List Part) × (body ≡ Holds parts)
held Unknown h = let z : ◌≡◌ {A = ℕ} 0 1 = cc in absurd (omega arith)
held (Holds parts) h = (parts, refl)

pub held_if : (test : Bool) (parts : List Part) → is_held (cond test (Holds parts) Unknown) ≡ test
held_if true parts = refl
held_if false parts = refl

-- a later edition has the bodies of an earlier one
module _ (edition later : ℕ) (l : edition ≤ later) (kind : ℕ) (parts : List Part) where
  row_kept : (from : ℕ) (body : List Part) → cond (leb from edition) (Holds body) Unknown ≡ Holds parts
      → cond (leb from later) (Holds body) Unknown ≡ Holds parts
  row_kept from body = go (leb from edition) refl
    where
      go : (t : Bool) → leb from edition ≡ t → cond t (Holds body) Unknown ≡ Holds parts
          → cond (leb from later) (Holds body) Unknown ≡ Holds parts
      go true e h = rw (le-leb from later (let k = leb-true from edition e in omega arith)) h
      go false e h = let z : ◌≡◌ {A = ℕ} 0 1 = cc in absurd (omega arith)

  pub kinds_kept : (rows : List KindRow) → kinds_in rows edition kind ≡ Holds parts → kinds_in rows later kind ≡ Holds parts
  unfolding kinds_in
  kinds_kept [] h = h
  kinds_kept (r ∷ rest) h = go (eqb kind r.kind) (kinds_kept rest) h
    where
      go : (t : Bool) → (kinds_in rest edition kind ≡ Holds parts → kinds_in rest later kind ≡ Holds parts)
          → cond t (cond (leb r.edition edition) (Holds r.body) Unknown) (kinds_in rest edition kind) ≡ Holds parts
          → cond t (cond (leb r.edition later) (Holds r.body) Unknown) (kinds_in rest later kind) ≡ Holds parts
      go true later_rows k = row_kept r.edition r.body k
      go false later_rows k = later_rows k

-- what holds of each row of a table holds of each kind that it makes known
abbrev pub EachRow : (ℕ → List Part → Type 0) → List KindRow → Type 0
EachRow P [] = Unit
EachRow P (r ∷ rest) = P r.kind r.body × EachRow P rest

pub each_kind : (P : ℕ → List Part → Type 0) (rows : List KindRow) → EachRow P rows
    → (edition kind : ℕ) (parts : List Part) → kinds_in rows edition kind ≡ Holds parts → P kind parts
unfolding kinds_in
each_kind P [] all edition kind parts h = let z : ◌≡◌ {A = ℕ} 0 1 = cc in absurd (omega arith)
each_kind P (r ∷ rest) all edition kind parts h =
    go (eqb kind r.kind) refl (leb r.edition edition) all.0 (each_kind P rest all.1 edition kind parts) h
  where
    go : (t : Bool) → eqb kind r.kind ≡ t → (has : Bool) → P r.kind r.body
        → (kinds_in rest edition kind ≡ Holds parts → P kind parts)
        → cond t (cond has (Holds r.body) Unknown) (kinds_in rest edition kind) ≡ Holds parts → P kind parts
    go true q true first later k = let same : parts ≡ r.body = cc in rw (eqb-true kind r.kind q, same) first
    go true q false first later k = let z : ◌≡◌ {A = ℕ} 0 1 = cc in absurd (omega arith)
    go false q has first later k = later k

-- a weighed kind that is known has a body of six bytes or more
pub six : (edition kind : ℕ) → is_weighed kind ≡ true → is_known edition kind ≡ true → 6 ≤ body_size kind
unfolding kind_table
six edition kind h k =
    let body = held (kinds_of edition kind) k in
    each_kind (λ (kind : ℕ) (parts : List Part). 128 ≤ kind → 6 ≤ body_size kind) kind_table rows edition kind body.0
    body.1 (leb-true 128 kind h)
  where
    rows : EachRow (λ (kind : ℕ) (parts : List Part). 128 ≤ kind → 6 ≤ body_size kind) kind_table
    rows =
        (λ w. absurd (omega arith), (λ w. omega arith, (λ w. absurd (omega arith), (λ w. omega arith, (λ w. omega arith, tt)))))

-- of all kinds AA alone has a lot, right behind its milligrams
pub lot_of : (kind : ℕ) (b : List ℕ) (at : ℕ)
    → lot_in (kinds_of last_edition kind) b (at + 1) ≡ cond (eqb kind 0xAA) (be32_at b (at + 7)) 0
unfolding kinds_in kind_table lot_from
lot_of kind b at =
    go (eqb kind 0x02) (eqb kind 0x86) (eqb kind 0x14) (eqb kind 0x98) refl refl refl refl
  where
    go : (p q r t : Bool) → eqb kind 0x02 ≡ p → eqb kind 0x86 ≡ q → eqb kind 0x14 ≡ r → eqb kind 0x98 ≡ t
        → lot_in (kinds_of last_edition kind) b (at + 1) ≡ cond (eqb kind 0xAA) (be32_at b (at + 7)) 0
    go true q r t a c d e = rw (eqb-true kind 0x02 a)
    go false true r t a c d e = rw (eqb-true kind 0x86 c)
    go false false true t a c d e = rw (eqb-true kind 0x14 d)
    go false false false true a c d e = rw (eqb-true kind 0x98 e)
    go false false false false a c d e = rw (a, c, d, e) (last (eqb kind 0xAA))
      where
        last : (u : Bool) → lot_in (cond u (Holds (Oxide ∷ Milligrams ∷ Lot ∷ [])) Unknown) b (at + 1)
            ≡ cond u (be32_at b (at + 7)) 0
        last true = let k : at + 1 + 2 + 4 ≡ at + 7 = omega arith in rw k
        last false = refl
