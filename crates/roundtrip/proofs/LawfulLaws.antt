-- The reasons of refusal 32 are what the rules say: of one entry (entry_lawful), of entries behind others (entries_lawful),
-- of the signature's list with the 1000 and the 1004 in front (signed_lawful_lem) and of the header's (headed_lawful_lem).
use Prim.Native.Nat.{ℕ, zero, suc, ◌+◌, ◌*◌, ◌≤◌, ◌<◌}
use mathlib.Core.Path.{◌≡◌, refl, sym, ◌∙◌}
use mathlib.Core.Logic.{◌↔◌, ◌≢◌}
use mathlib.Core.List.{List, [], ◌∷◌}
use mathlib.Core.Bool.{Bool, true, false, ◌||◌}
use lib.ListN.{length}
use lib.Dec.{eqb}
use native.Mathlib.Omega.{arith}
use borrow.Author.Tests.{eqb-true, eqb-false, eq-eqb}
use Rattle.std.specs.Prelude.{Option, Some, None}
use Rattle.format.specs.Sizes.{nindex_limit}
use Rattle.format.specs.declared.section.Structure.{Structure}
use Rattle.format.specs.declared.section.Structure.TheVariants.{Signature, Header}
use Rattle.format.specs.Verdicts.{pass}
use Rattle.entries.specs.declared.types.ElementSize.{ElementSize}
use Rattle.entries.specs.declared.types.ElementSize.TheVariants.{Bytes, ToZero}
use Rattle.entries.specs.Types.{element_size, is_lawful}
use Rattle.entries.proofs.RuleLaws.{type_lawful_lem, count_lawful}
use Rattle.put.specs.Puts.{zeros}
use Rattle.lists.specs.Lists.{ListEntry}
use Rattle.reasons.specs.Reasons.{record_of, exact_for, data_exact, tag_in, entries_reasons, size_tag, digest_tag, with_own}
use Rattle.reasons.proofs.ReasonLaws.{own_passes}
use Rattle.roundtrip.specs.Lawful.{nth, Strings, LawfulEntry, LawfulEntries}
use Rattle.reasons.proofs.RightLaws.{EntryRight, entries_right, ListRight}
use Rattle.roundtrip.proofs.RecordLaws.{ends_exactly, in_step}
use Rattle.roundtrip.proofs.TextLaws.{strings_exact}

-- data that is exactly what type and count say
module _ (count : ℕ) (bytes : List ℕ) where
  abbrev Fixed : Option ElementSize → Type 0
  Fixed size = (n : ℕ) → size ≡ Some (Bytes n) → length bytes ≡ n * count

  exact_lawful : (size : Option ElementSize) → is_lawful size ≡ true
      → (exact_for size count bytes ≡ true) ↔ (Fixed size × (size ≡ Some ToZero → Strings bytes count))
  exact_lawful (Some (Bytes m)) t = (
    λ h. (
      λ n q. let w : m ≡ n = cc in rw (← w) (sym (eqb-true _ _ h)),
      λ q. absurd cc,
    ),
    λ h. eq-eqb _ _ (sym (h.0 m refl)),
  )
  exact_lawful (Some ToZero) t = (
    λ h. (
      λ n q. absurd cc,
      λ q. (strings_exact bytes count).0 (ends_exactly _ _ h),
    ),
    λ h. rw ((strings_exact bytes count).1 (h.1 refl)) (eq-eqb (length bytes) (length bytes) refl),
  )
  exact_lawful None t = absurd cc

-- one entry
entry_lawful : (structure : Structure) (seen : List ℕ) (entry : ListEntry)
    → EntryRight structure seen entry ↔ (LawfulEntry structure entry × (tag_in entry.tag seen ≡ false))
unfolding data_exact
entry_lawful structure seen entry = (
  λ r.
      let c = (count_lawful (record_of entry 0) structure).0 r.counted in
      let x = (exact_lawful entry.count entry.bytes (element_size entry.ty) r.typed).0 r.exact in (
        record {
          type' = (type_lawful_lem entry.ty).0 r.typed;
          count = c.0;
          single = c.1;
          translated = c.2;
          fixed = x.0;
          strings = x.1;
        },
        r.fresh,
      ),
  λ h.
      let l = h.0 in
      let t = (type_lawful_lem entry.ty).1 l.type' in
      record {
        typed = t;
        counted = (count_lawful (record_of entry 0) structure).1 (l.count, l.single, l.translated);
        exact = (exact_lawful entry.count entry.bytes (element_size entry.ty) t).1 (l.fixed, l.strings);
        fresh = h.1;
      },
)

-- a tag that is none of some
fresh_step : (tag first : ℕ) (seen : List ℕ)
    → (tag_in tag (first ∷ seen) ≡ false) ↔ ((first ≢ tag) × (tag_in tag seen ≡ false))
fresh_step tag first seen = rw (in_step tag first seen) (go (eqb first tag) refl)
  where
    go : (b : Bool) → eqb first tag ≡ b → ((b || tag_in tag seen) ≡ false) ↔ ((first ≢ tag) × (tag_in tag seen ≡ false))
    go true t = (
      λ h. absurd cc,
      λ h. absurd (h.0 (eqb-true _ _ t)),
    )
    go false t = (λ h. (eqb-false _ _ t, h), λ h. h.1)

no_tag : (tag : ℕ) → tag_in tag [] ≡ false
unfolding tag_in
no_tag tag = refl

abbrev Fresh : List ℕ → List ListEntry → Type 0
Fresh seen entries = (i : ℕ) → i < length entries → tag_in (nth entries i).tag seen ≡ false

-- some entries behind others: the first, and those behind it
module _ (structure : Structure) (seen : List ℕ) (entry : ListEntry) (rest : List ListEntry) where
  module _ (l : LawfulEntry structure entry) (f : tag_in entry.tag seen ≡ false) (ls : LawfulEntries structure rest)
      (fs : Fresh (entry.tag ∷ seen) rest) where
    apart : (i : ℕ) → i < length rest → (entry.tag ≢ (nth rest i).tag) × (tag_in (nth rest i).tag seen ≡ false)
    apart i m = (fresh_step (nth rest i).tag entry.tag seen).0 (fs i m)

    each : (i : ℕ) → i < length (entry ∷ rest) → LawfulEntry structure (nth (entry ∷ rest) i)
    each zero m = l
    each (suc i) m = ls.each i (omega arith)

    once : (i j : ℕ) → i < length (entry ∷ rest) → j < i → (nth (entry ∷ rest) j).tag ≢ (nth (entry ∷ rest) i).tag
    once zero j m k = absurd (omega arith)
    once (suc i) zero m k = (apart i (omega arith)).0
    once (suc i) (suc j) m k = ls.once i j (omega arith) (omega arith)

    fresh : Fresh seen (entry ∷ rest)
    fresh zero m = f
    fresh (suc i) m = (apart i (omega arith)).1

  entries_step :
      ((LawfulEntry structure entry × (tag_in entry.tag seen ≡ false)) × (LawfulEntries structure rest × Fresh (entry.tag ∷ seen) rest))
      ↔ (LawfulEntries structure (entry ∷ rest) × Fresh seen (entry ∷ rest))
  entries_step = (
    λ h.
        let l = h.0.0 in
        let f = h.0.1 in
        let ls = h.1.0 in
        let fs = h.1.1 in
        (record { each = each l f ls fs; once = once l f ls fs }, fresh l f ls fs),
    λ h.
        let ls = h.0 in (
          (ls.each 0 (omega arith), h.1 0 (omega arith)),
          (
            record {
              each = λ i m. ls.each (suc i) (omega arith);
              once = λ i j m k. ls.once (suc i) (suc j) (omega arith) (omega arith);
            },
            λ i m.
                (fresh_step (nth rest i).tag entry.tag seen).1
                (ls.once (suc i) 0 (omega arith) (omega arith), h.1 (suc i) (omega arith)),
          ),
        ),
  )

none_pass : (structure : Structure) (seen : List ℕ) → entries_reasons structure seen [] ≡ pass
unfolding entries_reasons
none_pass structure seen = refl

entries_lawful : (structure : Structure) (entries : List ListEntry) (seen : List ℕ)
    → (entries_reasons structure seen entries ≡ pass) ↔ (LawfulEntries structure entries × Fresh seen entries)
entries_lawful structure [] seen = (
  λ h. (record { each = λ i l. absurd (omega arith); once = λ i j l. absurd (omega arith) }, λ i l. absurd (omega arith)),
  λ h. none_pass structure seen,
)
entries_lawful structure (entry ∷ rest) seen =
    let s = entries_right structure seen entry rest in
    let f = entry_lawful structure seen entry in
    let g = entries_lawful structure rest (entry.tag ∷ seen) in
    let j = entries_step structure seen entry rest in (
      λ h. let k = s.0 h in j.0 (f.0 k.0, g.0 k.1),
      λ h. let k = j.1 h in s.1 (f.1 k.0, g.1 k.1),
    )

-- the header's list
pub headed_lawful_lem : (entries : List ListEntry)
    → ListRight Header entries ↔ ((1 ≤ length entries) × (length entries ≤ nindex_limit) × LawfulEntries Header entries)
headed_lawful_lem entries = (
  λ r. (r.some, r.within, ((entries_lawful Header entries []).0 r.each).0),
  λ h.
      record { some = h.0; within = h.1; each = (entries_lawful Header entries []).1 (h.2, λ i l. no_tag (nth entries i).tag) },
)

-- the signature's list: 1000 and 1004 come first, so that their tags are seen
abbrev NotOwn : List ListEntry → Type 0
NotOwn entries = (i : ℕ) → i < length entries → ((nth entries i).tag ≢ size_tag) × ((nth entries i).tag ≢ digest_tag)

not_own : (entries : List ListEntry) → Fresh (digest_tag ∷ size_tag ∷ []) entries ↔ NotOwn entries
not_own entries = (
  λ f i l.
      let k = (fresh_step (nth entries i).tag digest_tag (size_tag ∷ [])).0 (f i l) in
      (λ q. ((fresh_step (nth entries i).tag size_tag []).0 k.1).0 (sym q), λ q. k.0 (sym q)),
  λ n i l.
      (fresh_step (nth entries i).tag digest_tag (size_tag ∷ [])).1 (
        λ q. (n i l).1 (sym q),
        (fresh_step (nth entries i).tag size_tag []).1 (λ q. (n i l).0 (sym q), no_tag (nth entries i).tag),
      ),
)

pub signed_lawful_lem : (entries : List ListEntry)
    → ListRight Signature (with_own 0 (zeros 16) entries)
    ↔ ((length entries + 2 ≤ nindex_limit) × LawfulEntries Signature entries × NotOwn entries)
signed_lawful_lem entries =
    let s = own_passes 0 (zeros 16) entries refl in
    let g = entries_lawful Signature entries (digest_tag ∷ size_tag ∷ []) in (
      λ r.
          let w = r.within in
          let k = g.0 (sym s ∙ r.each) in
          (omega arith, k.0, (not_own entries).0 k.1),
      λ h.
          let w = h.0 in
          record {
            some = omega arith;
            within = omega arith;
            each = s ∙ g.1 (h.1, (not_own entries).1 h.2);
          },
    )
