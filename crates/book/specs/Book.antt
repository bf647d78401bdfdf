-- Document 01, "Book" and checks 19 to 22, for the kinds that an edition knows.
use Rattle.std.specs.Prelude.{ℕ, zero, suc, ◌+◌, List, [], ◌∷◌, Bool, true, cond, ◌&&◌, length, get_or, leb}
use Rattle.be.specs.Numbers.{be16_at, be32_at}
use Rattle.format.specs.Verdicts.{check, both, Verdict, pass}
use Rattle.book.specs.declared.dose.Dose.{Dose}
use Rattle.book.specs.Kinds.{is_weighed, body_size, is_bare, Part, Oxide, Milligrams, Lot, Other, part_size}
use Rattle.book.specs.Kinds.{Body, Unknown, Holds, Kinds, kinds_of, last_edition}

-- a book is at most 4,096 bytes long, and is held by tag 20001
abbrev pub book_limit : ℕ
book_limit = 4096

abbrev pub book_tag : ℕ
book_tag = 20001

abbrev pub kind_at : List ℕ → ℕ → ℕ
kind_at b at = get_or b at 0

-- right behind the body of the record at a place
abbrev pub record_end : List ℕ → ℕ → ℕ
record_end b at = at + 1 + body_size (kind_at b at)

-- where records start: at 0 and then right behind each body (n bounds how many)
unfoldable pub places_from : List ℕ → ℕ → ℕ → List ℕ
places_from b zero at = []
places_from b (suc n) at = cond (leb (length b) at) [] (at ∷ places_from b n (record_end b at))

abbrev pub places : List ℕ → List ℕ
places b = places_from b (length b) 0

-- the first place from a place on, of n, where no remark without a body stands; right behind them where there is none
unfoldable pub past_bare : List ℕ → ℕ → ℕ → ℕ
past_bare b zero at = at
past_bare b (suc n) at = cond (is_bare (kind_at b at)) (past_bare b n (at + 1)) at

-- oxide 2, milligrams 4: every weighed body begins with them; where they stand, from the record's place on
abbrev pub oxide_place : ℕ
oxide_place = 1

abbrev pub milligrams_place : ℕ
milligrams_place = 3

-- the lot in a body from a place on: 4 bytes where the body has that part, else 0
unfoldable pub lot_from : List Part → List ℕ → ℕ → ℕ
lot_from [] b at = 0
lot_from (Lot ∷ rest) b at = be32_at b at
lot_from (Oxide ∷ rest) b at = lot_from rest b (at + part_size Oxide)
lot_from (Milligrams ∷ rest) b at = lot_from rest b (at + part_size Milligrams)
lot_from (Other size ∷ rest) b at = lot_from rest b (at + part_size (Other size))

abbrev pub lot_in : Body → List ℕ → ℕ → ℕ
lot_in Unknown b at = 0
lot_in (Holds parts) b at = lot_from parts b at

-- the dose of the weighed record at a place, by a set of kinds
abbrev pub dose_by : Kinds → List ℕ → ℕ → Dose
dose_by kinds b at =
    record {
      oxide = record { 0 = be16_at b (at + oxide_place) };
      milligrams = record { 0 = be32_at b (at + milligrams_place) };
      lot = record { 0 = lot_in (kinds (kind_at b at)) b (at + 1) };
    }

-- and by all kinds
abbrev pub dose_at : List ℕ → ℕ → Dose
dose_at b at = dose_by (kinds_of last_edition) b at

-- 20 | unknown weighed kind
abbrev pub kind_allowed : (ℕ → Bool) → ℕ → Bool
kind_allowed known kind = cond (is_weighed kind) (known kind) true

-- 21 | body passes the book's end
abbrev pub body_fits : List ℕ → ℕ → Bool
body_fits b at = leb (record_end b at) (length b)

-- 22 | oxide or milligrams: oxide is 1 to 999, milligrams 1 to 5,000,000
unfoldable pub weight_lawful : ℕ → ℕ → Bool
weight_lawful oxide milligrams = leb 1 oxide && leb oxide 999 && leb 1 milligrams && leb milligrams 5000000

abbrev pub dose_lawful : Dose → Bool
dose_lawful dose = weight_lawful dose.oxide.0 dose.milligrams.0

abbrev pub weighed_right : List ℕ → ℕ → Bool
weighed_right b at =
    cond (is_weighed (kind_at b at)) (weight_lawful (be16_at b (at + oxide_place)) (be32_at b (at + milligrams_place))) true

-- 20 to 22 for the record at a place, which is its kind byte's offset in the book
unfoldable pub record_check : (ℕ → Bool) → List ℕ → ℕ → Verdict
record_check known b at =
    check (kind_allowed known (kind_at b at)) 20 at
    (check (body_fits b at) 21 at
    (check (weighed_right b at) 22 at
    pass))

unfoldable pub records_check : (ℕ → Bool) → List ℕ → List ℕ → Verdict
records_check known b [] = pass
records_check known b (at ∷ rest) = both (record_check known b at) (records_check known b rest)

-- 19 | book over 4,096 bytes | 20001
unfoldable pub length_check : List ℕ → Verdict
length_check b = check (leb (length b) book_limit) 19 book_tag pass

-- 19 to 22
unfoldable pub book_check : (ℕ → Bool) → List ℕ → Verdict
book_check known b = both (length_check b) (records_check known b (places b))
