-- Requests 1 and 3: what is written is read back, entry for entry, and written again, byte for byte. Stated over what the public
-- calls promise: the writing (Wrote), walks and look-ups. Each is proved in proofs/ under its name in small letters.
use Rattle.std.specs.Prelude.{ℕ, ◌-◌, ◌≤◌, ◌<◌, ◌≡◌, ◌↔◌, ◌≢◌, List, length, take, drop, get_or, Ok}
use Rattle.strings.specs.Strings.{next_zero}
use Rattle.format.specs.Verdicts.{number_of, Answer, pass}
use Rattle.format.specs.Places.{section_end}
use Rattle.index.specs.Lookup.{tagged_in}
use Rattle.package.specs.Package.{sound_check, signature_at, header_at, header_start}
use Rattle.lookups.specs.Lookup.{find_bytes, find_answer}
use Rattle.rules.specs.Rules.{size_tag_check}
use Rattle.message_digest.specs.Md5.{digest}
use Rattle.verify.specs.Digests.{digest_check}
use Rattle.lists.specs.Lists.{ListEntry, entries_of, list_of, row_of}
use Rattle.reasons.specs.Reasons.{with_own}
use Rattle.writer.specs.Writing.{Wrote}
use Rattle.roundtrip.specs.Shown.{shown, behind_own}
use Rattle.roundtrip.specs.Lawful.{nth, LawfulWriting}

-- a slice of bytes
abbrev pub Octets : List ℕ → Type 0
Octets s = (i : ℕ) → get_or s i 0 < 256

-- a look-up of each entry's tag with its type shows exactly its data
abbrev pub Finds : List ℕ → ℕ → List ListEntry → Type 0
Finds p which entries =
    (i : ℕ) → i < length entries
    → (find_bytes p which (nth entries i).tag (nth entries i).ty ≡ (nth entries i).bytes)
    × (number_of (find_answer p which (nth entries i).tag (nth entries i).ty) ≡ 0)

-- 1000, with the length less H, and 1004, with the MD5 of the bytes from H to the end, before other entries
abbrev pub with_own_of : List ℕ → List ListEntry → List ListEntry
with_own_of p signature =
    with_own (length p - header_start (signature_at p)) (digest (drop (header_start (signature_at p)) p)) signature

-- reading back gives exactly those entries plus 1000 and 1004
pub record ReadsBack (p name : List ℕ) (signature header : List ListEntry) : Type 0 where
  -- p passes checks 2 to 13 and 28
  pub sound : sound_check p ≡ pass
  -- the bytes between the signature's end and H are zero
  pub gap : (i : ℕ) → section_end (signature_at p) ≤ i → i < header_start (signature_at p) → get_or p i 0 ≡ 0
  -- the signature shows 1000 and 1004 and then the caller's entries, in order; the header the caller's
  pub signed : shown p 0 ≡ with_own_of p signature
  pub headed : (which : ℕ) → which ≢ 0 → shown p which ≡ header
  pub signed_found : Finds p 0 (with_own_of p signature)
  pub headed_found : (which : ℕ) → which ≢ 0 → Finds p which header
  -- check 16 holds
  pub sized : size_tag_check p (length p) (signature_at p) (header_at p) (tagged_in p (signature_at p)) ≡ pass
  -- check 27 holds
  pub digested : digest_check p (signature_at p) (header_at p) ≡ pass
  -- the lead's name up to its first zero
  pub named : take (next_zero p 66 10 - 10) (drop 10 p) ≡ name
  -- the payload is empty
  pub empty : section_end (header_at p) ≡ length p

-- For every writing that is accepted, with p the bytes written: they are read back, and the bytes behind them stay.
pub record Made (name signature signatureRow header headerRow before after : List ℕ) (n : ℕ) : Type 0 where
  pub reads : ReadsBack (take n after) name (entries_of signature signatureRow) (entries_of header headerRow)
  pub size : length (take n after) ≡ n
  pub behind : drop n after ≡ drop n before

abbrev pub ReadBack : Type 0
ReadBack =
    (name signature signatureRow header headerRow before after : List ℕ) (answer : Answer) (n : ℕ)
    → Octets signature → Octets header
    → Wrote name signature signatureRow header headerRow before answer after → answer ≡ Ok n
    → Made name signature signatureRow header headerRow before after n

-- Writing, with the same name, what was read from p, without that 1000 and 1004, into any buffer that has room gives the bytes
-- of p.
abbrev pub WriteAgain : Type 0
WriteAgain =
    (name signature signatureRow header headerRow before after : List ℕ) (answer : Answer) (n : ℕ)
    → Octets signature → Octets header
    → Wrote name signature signatureRow header headerRow before answer after → answer ≡ Ok n
    → (before' after' : List ℕ) (answer' : Answer) → n ≤ length before'
    → Wrote name (list_of (behind_own (shown (take n after) 0))) (row_of (behind_own (shown (take n after) 0)))
    (list_of (shown (take n after) 1)) (row_of (shown (take n after) 1)) before' answer' after'
    → (answer' ≡ Ok n) × (take n after' ≡ take n after) × (drop n after' ≡ drop n before')

-- Accepted exactly when the name and the lists are lawful and the package is within limit and room.
abbrev pub AcceptedExactly : Type 0
AcceptedExactly =
    (name signature signatureRow header headerRow before after : List ℕ) (answer : Answer)
    → Octets signature → Octets header
    → Wrote name signature signatureRow header headerRow before answer after
    → (number_of answer ≡ 0) ↔ LawfulWriting name signature signatureRow header headerRow (length before)
