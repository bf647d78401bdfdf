-- The reasons of 32: each entry in turn (entries_begun, entries_turn, entries_next, entries_ends, entries_spent), and the
-- writer's own entries (own_passes).
use Prim.Native.Nat.{ℕ, zero, suc, ◌+◌, ◌-◌, ◌*◌, ◌≤◌, ◌<◌}
use mathlib.Core.Path.{◌≡◌, refl, sym, ◌∙◌}
use mathlib.Core.List.{List, [], ◌∷◌}
use mathlib.Core.Bool.{Bool, true, false, not, ◌||◌, or_assoc}
use lib.ListN.{length, take, drop}
use lib.Dec.{eqb}
use native.Mathlib.Nat.{sub-zero}
use native.Mathlib.Numerals.{add-one}
use borrow.Author.Tests.{not-true}
use Rattle.be.specs.Numbers.{be32_at}
use Rattle.format.specs.declared.section.Structure.{Structure}
use Rattle.format.specs.declared.section.Structure.TheVariants.{Signature}
use Rattle.format.specs.Verdicts.{check, both, Verdict, pass}
use Rattle.format.specs.declared.verdict.Refusal.{Refusal}
use Rattle.format.proofs.VerdictLaws.{both_pass, both_fail, inverted}
use Rattle.among.specs.Among.{tag_among, first_from}
use Rattle.among.proofs.FirstLaws as first
use Rattle.repeats.specs.Repeats.{repeated_among}
use Rattle.entries.specs.Types.{element_size}
use Rattle.entries.specs.Entries.{count_right}
use Rattle.put.specs.Puts.{bytes_of}
use Rattle.lists.specs.declared.ListRecord.{ListRecord}
use Rattle.lists.specs.Lists.{ListEntry, list_record_at, record_shown, size_at, entry_of, entry_at, entries_from}
use Rattle.lists.proofs.ListLaws.{record_whole, entries_step, entries_none}
use Rattle.reasons.specs.Reasons.{data_exact, tag_in, entry_reasons, entries_reasons}
use Rattle.reasons.specs.Reasons.{with_own, own_tags, tags_before, known_reasons}
use Rattle.std.specs.Prelude.{Err}

-- the tags before an entry: those of the entries before it, and the writer's own
tags_before_lem : (structure : Structure) (list : List ℕ) (tag i : ℕ)
    → tag_in tag (tags_before structure list i) ≡ (tag_among list i tag || tag_in tag (own_tags structure))
unfolding tag_in tags_before tag_among
tags_before_lem structure list tag zero = refl
tags_before_lem structure list tag (suc i) =
    rw (tags_before_lem structure list tag i)
    (sym (or_assoc (eqb (be32_at list (16 * i)) tag) (tag_among list i tag) (tag_in tag (own_tags structure))))

-- an entry of which it is known whether one before it in the list has its tag
apart_tags : (own before : Bool) → check (not own) 32 0 (check (not before) 32 0 pass) ≡ check (not (before || own)) 32 0 pass
unfolding check
apart_tags true true = refl
apart_tags true false = refl
apart_tags false true = refl
apart_tags false false = refl

known_as : (structure : Structure) (list : List ℕ) (i : ℕ) (entry : ListEntry)
    → known_reasons structure (tag_among list i entry.tag) entry ≡ entry_reasons structure (tags_before structure list i) entry
unfolding known_reasons entry_reasons
known_as structure list i entry =
    rw (
      tags_before_lem structure list entry.tag i,
      apart_tags (tag_in entry.tag (own_tags structure)) (tag_among list i entry.tag),
    )

-- each entry in turn
step : (structure : Structure) (seen : List ℕ) (entry : ListEntry) (rest : List ListEntry)
    → entries_reasons structure seen (entry ∷ rest)
    ≡ both (entry_reasons structure seen entry) (entries_reasons structure (entry.tag ∷ seen) rest)
unfolding entries_reasons
step structure seen entry rest = refl

none : (structure : Structure) (seen : List ℕ) → entries_reasons structure seen [] ≡ pass
unfolding entries_reasons
none structure seen = refl

next : (structure : Structure) (list : List ℕ) (i : ℕ)
    → be32_at list (16 * i) ∷ tags_before structure list i ≡ tags_before structure list (i + 1)
unfolding tags_before
next structure list i = rw (add-one i)

pub entries_begun : (structure : Structure) (list row : List ℕ) (n : ℕ)
    → entries_reasons structure (own_tags structure) (entries_from list row n 0 0)
    ≡ entries_reasons structure (tags_before structure list 0) (entries_from list row (n - 0) 0 0)
unfolding tags_before
entries_begun structure list row n = rw sub-zero

-- in the shape of what is known in a turn: v is what the run began with, e and bytes are entry i, r is what it found
module _ (structure : Structure) (list row : List ℕ) (n i at : ℕ) {v : Verdict}
    (inv : v ≡ entries_reasons structure (tags_before structure list i) (entries_from list row (n - i) i at)) where
  module _ {e : ListRecord} {bytes : List ℕ} {r : Verdict} {repeat : ℕ}
      (h : r ≡ known_reasons structure (eqb i repeat) (entry_of e bytes)) (w : 16 * n ≤ length list) (f : e ≡ record_shown list i)
      (b : bytes ≡ take e.size (drop at row)) (l : i < n)
      (known : repeat ≡ first_from (repeated_among list) (n - i) i) where
    p : e ≡ list_record_at list i
    p = record_whole list n i w l f

    told : eqb i repeat ≡ tag_among list i (be32_at list (16 * i))
    unfolding repeated_among
    told = first.decides (repeated_among list) n i l known

    begun : v ≡ both r (entries_reasons structure (tags_before structure list (i + 1))
        (entries_from list row (n - (i + 1)) (i + 1) (at + size_at list i)))
    begun =
        let q : r ≡ entry_reasons structure (tags_before structure list i) (entry_at list row i at) =
        h ∙ rw (b, p, told) (known_as structure list i (entry_at list row i at))
        in
        inv ∙ rw (entries_step list row n i at l)
        (step structure (tags_before structure list i) (entry_at list row i at) _ ∙ rw (← q, next structure list i))

    pub entries_turn : r ≡ pass
        → v ≡ entries_reasons structure (tags_before structure list (i + 1))
        (entries_from list row (n - (i + 1)) (i + 1) (at + e.size))
    entries_turn k = begun ∙ both_pass k ∙ rw p

    pub entries_next : r ≡ pass → repeat ≡ first_from (repeated_among list) (n - (i + 1)) (i + 1)
    unfolding known_reasons
    entries_next k =
        let ok = sym h ∙ k in
        let typed = (inverted _ 32 0 _ ok).1 in
        let counted = (inverted _ 32 0 _ typed).1 in
        let exact = (inverted _ 32 0 _ counted).1 in
        let foreign = (inverted _ 32 0 _ exact).1 in
        let new = not-true (eqb i repeat) (inverted _ 32 0 _ foreign).0 in
        first.next (repeated_among list) n i l known (sym (first.decides (repeated_among list) n i l known) ∙ new)

    pub entries_ends : {e : Refusal} → r ≡ Err e → Err e ≡ v
    entries_ends k = sym (begun ∙ both_fail _ k)

  pub entries_spent : n ≤ i → pass ≡ v
  entries_spent l = sym (inv ∙ rw (entries_none list row n i at l) (none structure (tags_before structure list i)))

-- the writer's own entries pass, whatever the number and the 16 bytes
pub own_passes : (size : ℕ) (digest : List ℕ) (rest : List ListEntry) → length digest ≡ 16
    → entries_reasons Signature [] (with_own size digest rest) ≡ entries_reasons Signature (own_tags Signature) rest
unfolding bytes_of entries_reasons entry_reasons check both element_size count_right data_exact tag_in
own_passes size digest rest h = rw h
