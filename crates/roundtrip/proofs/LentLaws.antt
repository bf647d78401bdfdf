-- Lists as they are lent. The numbers of a list's entries are 32 bits wide (wide_of). A list of entries, lent, is
-- well-formed and has just those entries, so that two lists that may be written are accepted and written (lent_accepted,
-- lent_written). A well-formed list is its entries, lent (form_lent).
use Prim.Native.Nat.{ℕ, zero, suc, ◌+◌, ◌*◌, ◌/◌, ◌%◌, ◌≤◌, ◌<◌}
use mathlib.Core.Path.{◌≡◌, refl, sym, ◌∙◌}
use mathlib.Core.List.{List, [], ◌∷◌, ◌++◌, append_assoc}
use lib.ListN.{length, get_or, take, drop, length-append, length-take, length-drop, take-append-drop, drop_of_length-le}
use lib.Seq.{drop-drop, length-take-le}
use native.Mathlib.Omega.{arith}
use Rattle.be.specs.Numbers.{be32_at}
use Rattle.format.specs.Verdicts.{pass}
use Rattle.put.specs.Puts.{bytes_of, four_bytes}
use Rattle.put.proofs.PutLaws.{length_four}
use Rattle.lists.specs.Lists.{ListEntry, list_of, row_of, size_at, entry_at, entries_from, entries_of, sizes_from}
use Rattle.layout.specs.Layout.{written}
use Rattle.plan.specs.Refusals.{written_of, write_check}
use Rattle.roundtrip.specs.Lawful.{WideEntry, Wide}
use Rattle.roundtrip.specs.Theorems.{Octets}
use Rattle.roundtrip.proofs.HoldsLaws.{next_byte, Holds, all, front, rest, moved, part, four}
use Rattle.reasons.proofs.RightLaws.{FormRight}
use Rattle.roundtrip.proofs.ReasonLaws.{Writable, accepted}

-- the numbers of a list
small : (s : List ℕ) → Octets s → (at : ℕ) → be32_at s at < 4294967296
unfolding be32_at
small s o at = omega (arith, o at, o (at + 1), o (at + 2), o (at + 3))

-- each entry, where the first and each behind it
pub wide_step : (entry : ListEntry) (rest : List ListEntry) → WideEntry entry → Wide rest → Wide (entry ∷ rest)
wide_step entry rest h f zero l = h
wide_step entry rest h f (suc i) l = f i (omega arith)

wide : (list row : List ℕ) → Octets list → (n i at : ℕ) → Wide (entries_from list row n i at)
unfolding entries_from
wide list row o zero i at = λ k l. absurd (omega arith)
wide list row o (suc n) i at =
    let size = size_at list i in
    let l = small list o (16 * i + 12) in
    let short : length (take size (drop at row)) ≤ size = simp length-take (omega arith) in
    wide_step (entry_at list row i at) (entries_from list row n (i + 1) (at + size))
    (small list o (16 * i), small list o (16 * i + 4), small list o (16 * i + 8), omega arith)
    (wide list row o n (i + 1) (at + size))

pub wide_of : (list row : List ℕ) → Octets list → Wide (entries_of list row)
wide_of list row o = wide list row o (length list / 16) 0 0

-- a list of entries, lent
list_length : (entries : List ListEntry) → length (list_of entries) ≡ 16 * length entries
unfolding list_of
list_length [] = refl
list_length (entry ∷ rest) =
    let four = four_bytes entry.tag entry.ty entry.count (length entry.bytes) in
    let a = length_four entry.tag entry.ty entry.count (length entry.bytes) in
    let b = length-append four (list_of rest) in
    let k = list_length rest in
    omega arith

module _ (list row : List ℕ) where
  one : (entry : ListEntry) (i at : ℕ) → WideEntry entry
      → Holds list (16 * i) (four_bytes entry.tag entry.ty entry.count (length entry.bytes))
      → Holds row at entry.bytes → (entry_at list row i at ≡ entry) × (size_at list i ≡ length entry.bytes)
  one entry i at w h k =
      let f = four entry.tag entry.ty entry.count (length entry.bytes) w.0 w.1 w.2 w.3 h in
      (rw (f.first, f.second, f.third, f.fourth, part k), f.fourth)

  each : (entries : List ListEntry) (i at : ℕ) → Wide entries → Holds list (16 * i) (list_of entries)
      → Holds row at (row_of entries)
      → (entries_from list row (length entries) i at ≡ entries)
      × (sizes_from list (length entries) i ≡ length (row_of entries))
  unfolding entries_from sizes_from list_of row_of
  each [] i at w h k = (refl, refl)
  each (entry ∷ entries) i at w h k =
      let numbers = four_bytes entry.tag entry.ty entry.count (length entry.bytes) in
      let here =
      one entry i at (w 0 (omega arith)) (front numbers (list_of entries) h) (front entry.bytes (row_of entries) k) in
      let e = length_four entry.tag entry.ty entry.count (length entry.bytes) in
      let d = length-append entry.bytes (row_of entries) in
      let later =
      each entries (i + 1) (at + length entry.bytes) (λ j l. w (suc j) (omega arith))
      (moved {k = 16 * (i + 1)} (omega arith) (rest numbers (list_of entries) h))
      (rest entry.bytes (row_of entries) k) in
      (rw (here.0, here.1, later.0), rw here.1 (omega (arith, later.1)))

module _ (entries : List ListEntry) (w : Wide entries) where
  number_of : length (list_of entries) / 16 ≡ length entries
  number_of = let k = list_length entries in omega arith

  both_lent : (entries_from (list_of entries) (row_of entries) (length entries) 0 0 ≡ entries)
      × (sizes_from (list_of entries) (length entries) 0 ≡ length (row_of entries))
  both_lent =
      each (list_of entries) (row_of entries) entries 0 0 w (moved (omega arith) (all (list_of entries))) (all (row_of entries))

  lent_entries : entries_of (list_of entries) (row_of entries) ≡ entries
  lent_entries = rw number_of both_lent.0

  lent_form : FormRight (list_of entries) (row_of entries)
  lent_form = let k = list_length entries in record { whole = omega arith; meet = rw number_of both_lent.1 }

-- two lists of entries that may be written, lent
module _ (name : List ℕ) (signature header : List ListEntry) (w : Writable name signature header) where
  pub lent_written : written_of name (list_of signature) (row_of signature) (list_of header) (row_of header)
      ≡ written name signature header
  lent_written = rw (lent_entries signature w.wide_signed, lent_entries header w.wide_headed)

  pub lent_accepted : (room : ℕ) → length (written name signature header) ≤ room
      → write_check name (list_of signature) (row_of signature) (list_of header) (row_of header) room ≡ pass
  lent_accepted room l =
      (accepted name (list_of signature) (row_of signature) (list_of header) (row_of header) room).1
      (record {
        signed_form = lent_form signature w.wide_signed;
        headed_form = lent_form header w.wide_headed;
        named = w.named;
        signed = rw (lent_entries signature w.wide_signed) w.signed;
        headed = rw (lent_entries header w.wide_headed) w.headed;
        limit = rw lent_written w.limit;
        fits = rw lent_written l;
      })

-- the other way round: four bytes are those of their number
bytes_back : (a b c d : ℕ) → a < 256 → b < 256 → c < 256 → d < 256
    → bytes_of (a * 16777216 + b * 65536 + c * 256 + d) ≡ a ∷ b ∷ c ∷ d ∷ []
unfolding bytes_of
bytes_back a b c d la lb lc ld =
    let n = a * 16777216 + b * 65536 + c * 256 + d in
    let e1 : n / 16777216 % 256 ≡ a = omega arith in
    let e2 : n / 65536 % 256 ≡ b = omega arith in
    let e3 : n / 256 % 256 ≡ c = omega arith in
    let e4 : n % 256 ≡ d = omega arith in
    cc

module _ (s : List ℕ) (o : Octets s) where
  next_number : (k : ℕ) → k + 4 ≤ length s → drop k s ≡ bytes_of (be32_at s k) ++ drop (k + 4) s
  unfolding be32_at
  next_number k l =
      let e2 : k + 1 + 1 ≡ k + 2 = omega arith in
      let e3 : k + 2 + 1 ≡ k + 3 = omega arith in
      let e4 : k + 3 + 1 ≡ k + 4 = omega arith in
      let b0 = next_byte s k (omega arith) in
      let b1 = rw e2 at (next_byte s (k + 1) (omega arith)) in
      let b2 = rw e3 at (next_byte s (k + 2) (omega arith)) in
      let b3 = rw e4 at (next_byte s (k + 3) (omega arith)) in
      let back =
      bytes_back (get_or s k 0) (get_or s (k + 1) 0) (get_or s (k + 2) 0) (get_or s (k + 3) 0) (o k) (o (k + 1)) (o (k + 2))
      (o (k + 3)) in
      rw (b0, b1, b2, b3, back)

  next_four : (k : ℕ) → k + 16 ≤ length s
      → drop k s ≡ four_bytes (be32_at s k) (be32_at s (k + 4)) (be32_at s (k + 8)) (be32_at s (k + 12)) ++ drop (k + 16) s
  unfolding four_bytes
  next_four k l =
      let e8 : k + 4 + 4 ≡ k + 8 = omega arith in
      let e12 : k + 8 + 4 ≡ k + 12 = omega arith in
      let e16 : k + 12 + 4 ≡ k + 16 = omega arith in
      let n0 = next_number k (omega arith) in
      let n4 = rw e8 at (next_number (k + 4) (omega arith)) in
      let n8 = rw e12 at (next_number (k + 8) (omega arith)) in
      let n12 = rw e16 at (next_number (k + 12) (omega arith)) in
      rw (n0, n4, n8, n12) (sym (simp append_assoc))

-- a well-formed list, from number i and a place of the row on
module _ (list row : List ℕ) (o : Octets list) where
  one_back : (i at size : ℕ) (rest : List ListEntry) → 16 * i + 16 ≤ length list → size ≡ size_at list i
      → at + size ≤ length row → drop (16 * (i + 1)) list ≡ list_of rest → drop (at + size) row ≡ row_of rest
      → (drop (16 * i) list ≡ list_of (entry_at list row i at ∷ rest)) × (drop at row ≡ row_of (entry_at list row i at ∷ rest))
  unfolding list_of row_of
  one_back i at size rest l s m h k =
      let e : 16 * (i + 1) ≡ 16 * i + 16 = omega arith in
      let d = length-drop at row in
      let t : length (take (size_at list i) (drop at row)) ≡ size_at list i =
      length-take-le (size_at list i) (drop at row) (omega arith) in (
        next_four list o (16 * i) l ∙ rw (← e, h, t),
        sym (take-append-drop (size_at list i) (drop at row))
            ∙ rw (drop-drop (size_at list i) at row, ← s, k),
      )

  each_back : (n i at : ℕ) → length list ≡ 16 * (i + n) → at + sizes_from list n i ≡ length row
      → (drop (16 * i) list ≡ list_of (entries_from list row n i at)) × (drop at row ≡ row_of (entries_from list row n i at))
  unfolding entries_from sizes_from list_of row_of
  each_back zero i at l m = (
    drop_of_length-le list {i = 16 * i} (omega arith),
    drop_of_length-le row {i = at} (omega arith),
  )
  each_back (suc n) i at l m =
      let later = each_back n (i + 1) (at + size_at list i) (omega arith) (omega arith) in
      one_back i at (size_at list i) (entries_from list row n (i + 1) (at + size_at list i)) (omega arith) refl (omega arith)
      later.0 later.1

  pub form_lent : FormRight list row
      → (list ≡ list_of (entries_of list row)) × (row ≡ row_of (entries_of list row))
  form_lent f =
      let w = f.whole in
      let m = f.meet in
      each_back (length list / 16) 0 0 (omega arith) (omega arith)
