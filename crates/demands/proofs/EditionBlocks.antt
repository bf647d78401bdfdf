-- Two editions on one package agree block by block: checks_agree.
use Prim.Native.Nat.{ℕ}
use mathlib.Core.Path.{◌≡◌, refl, sym, ap, subst, ◌∙◌}
use mathlib.Core.Logic.{◌⊎◌, inl, inr}
use mathlib.Core.List.{List}
use mathlib.Core.Bool.{Bool, true, false, cond}
use lib.ListN.{length}
use lib.Dec.{eqb}
use native.Mathlib.Omega.{arith}
use Rattle.format.specs.declared.section.Section.{Section}
use Rattle.format.specs.Verdicts.{check, both, Verdict, pass, refusal}
use Rattle.format.proofs.VerdictLaws.{both_fail}
use Rattle.package.specs.Package.{sound_check, signature_at, header_at}
use Rattle.catalogue.specs.declared.Line.{Line}
use Rattle.catalogue.specs.Lists.{Listed, Rising, KeepsLines}
use Rattle.index.specs.Lookup.{tagged_in}
use Rattle.lines.specs.Lines.{lines_of, lines_check}
use Rattle.rules.specs.Rules.{rules_over, rules_check}
use Rattle.verify.specs.Digests.{digest_check}
use Rattle.book.specs.Kinds.{knows, is_held}
use Rattle.book.specs.Book.{places, book_check}
use Rattle.book.specs.Doses.{doses_in, sum_of}
use Rattle.book.proofs.KindLaws.{held}
use Rattle.book.proofs.KindTheorems.{any_kinds}
use Rattle.reading.specs.Editions.{Edition, has_batch, batch_tag}
use Rattle.reading.specs.Reading.{book_of, weight_in, sum_check, room_check, book_part, opened_check, checks_at}
use Rattle.demands.specs.Editions.{Extends, batch_line, IsEdition, First, lacking_in}
use Rattle.demands.specs.Editions.{Added, AddsLine}
use Rattle.demands.proofs.AgreementLaws.{Related, same_first, agree_both}
use Rattle.demands.proofs.BookAgreement.{records_agree}
use Rattle.demands.proofs.LineAgreement.{Refuses, refuses_stays, ByLine, lines_agree}
use Rattle.demands.proofs.NumberLawful.{has_line_lem}
use Rattle.std.specs.Prelude.{Err}

-- the earlier edition stops with 20 at the first record of the book that it lacks
abbrev pub Stops : Edition → List ℕ → Verdict → Type 0
Stops earlier b v = (p : ℕ) × (v ≡ Err (refusal 20 p)) × (lacking_in earlier b ≡ First p)

-- the later stops at a line that it adds
abbrev pub StopsAdded : Edition → Edition → Verdict → Type 0
StopsAdded earlier later v =
    ((line : Line) × AddsLine earlier later line × Refuses v line.tag)
    ⊎ (Added earlier.header later.header batch_line × (v ≡ Err (refusal 23 batch_tag)))

-- agreement over a book
abbrev pub Alike : Edition → Edition → List ℕ → Verdict → Verdict → Type 0
Alike earlier later b v w = Related (Stops earlier b) (StopsAdded earlier later) v w

-- what the earlier knows the later knows
known_kept : (earlier later : Edition) → Extends earlier later → (kind : ℕ) → knows earlier.kinds kind ≡ true
    → knows later.kinds kind ≡ true
known_kept earlier later extends kind h =
    let k = held (earlier.kinds kind) h in
    ap is_held (extends.kinds kind k.0 k.1)

module _ (earlier later : Edition) (lawful : IsEdition earlier) (lawful' : IsEdition later) (extends : Extends earlier later)
    (b : List ℕ) where
  early_stays : (v w : Verdict) → Stops earlier b v → Stops earlier b (both v w)
  early_stays v w (p, h, f) = (p, both_fail w h, f)

  late_stays : (v w : Verdict) → StopsAdded earlier later v → StopsAdded earlier later (both v w)
  late_stays v w (inl (line, a, r)) = inl (line, a, refuses_stays v w line.tag r)
  late_stays v w (inr (a, h)) = inr (a, both_fail w h)

  run : (a a' c c' : Verdict) → Alike earlier later b a a' → Alike earlier later b c c'
      → Alike earlier later b (both a c) (both a' c')
  run = agree_both (Stops earlier b) (StopsAdded earlier later) early_stays late_stays

  module _ (s : List ℕ) where
    -- the lines of one part
    lines_alike : (section : Section) (first second : List Line)
        → ((line : Line) → Added first second line → AddsLine earlier later line)
        → Rising first → Rising second → KeepsLines first second
        → Alike earlier later b (lines_of (tagged_in s section) first) (lines_of (tagged_in s section) second)
    lines_alike section first second adds rises rises' keeps =
        sorted (lines_agree (tagged_in s section) first second rises rises' keeps)
      where
        sorted : {v w : Verdict} → (v ≡ w) ⊎ ByLine first second w → Alike earlier later b v w
        sorted (inl e) = inl e
        sorted (inr (line, a, r)) = inr (inr (inl (line, adds line a, r)))

    rules_agree : (len : ℕ) (signature header : Section)
        → Alike earlier later b (rules_check earlier.signature earlier.header s len signature header)
        (rules_check later.signature later.header s len signature header)
    unfolding rules_over lines_check
    rules_agree len signature header =
        run _ _ _ _
        (run _ _ _ _
        (lines_alike signature _ _ (λ line a. inl a) lawful.signature_rises lawful'.signature_rises extends.signature)
        (lines_alike header _ _ (λ line a. inr a) lawful.header_rises lawful'.header_rises extends.header))
        (inl refl)

    -- check 23 runs exactly where 20002 has a line
    batch_kept : has_batch earlier ≡ true → has_batch later ≡ true
    batch_kept h =
        let f = (has_line_lem batch_tag earlier.header).0 h in
        (has_line_lem batch_tag later.header).1 (f.0, extends.header f.0 f.1, f.2)

    batch_added : has_batch earlier ≡ false → has_batch later ≡ true → Added earlier.header later.header batch_line
    batch_added e l =
        let f = (has_line_lem batch_tag later.header).0 l in
        let given = lawful'.batch f.0 f.1 f.2 in
        record {
          listed = subst (λ (line : Line). Listed line later.header) given f.1;
          without = λ old m t.
              let z : ◌≡◌ {A = Bool} false true = sym e ∙ (has_line_lem batch_tag earlier.header).1 (old, m, t) in
              let y : ◌≡◌ {A = ℕ} 0 1 = cc in omega arith;
        }

    sum_agrees : (header : Section) (sum : ℕ)
        → Alike earlier later b (sum_check earlier s header sum) (sum_check later s header sum)
    unfolding sum_check check
    sum_agrees header sum = go (has_batch earlier) (has_batch later) refl refl (eqb (weight_in s header) sum)
      where
        go : (x y : Bool) → has_batch earlier ≡ x → has_batch later ≡ y → (ok : Bool)
            → Alike earlier later b (cond x (check ok 23 batch_tag pass) pass) (cond y (check ok 23 batch_tag pass) pass)
        go true true e l ok = inl refl
        go true false e l ok =
            let z : ◌≡◌ {A = Bool} false true = sym l ∙ batch_kept e in let y : ◌≡◌ {A = ℕ} 0 1 = cc in absurd (omega arith)
        go false true e l true = inl refl
        go false true e l false = inr (inr (inr (batch_added e l, refl)))
        go false false e l ok = inl refl

  book_agrees : Alike earlier later b (book_check (knows earlier.kinds) b) (book_check (knows later.kinds) b)
  unfolding book_check
  book_agrees =
      same_first (Stops earlier b) (StopsAdded earlier later) _ _ _
      (early (records_agree (knows earlier.kinds) (knows later.kinds) (known_kept earlier later extends) b (places b)))
    where
      early : {v w : Verdict} → (v ≡ w) ⊎ Stops earlier b v → Alike earlier later b v w
      early (inl e) = inl e
      early (inr x) = inr (inl x)

  -- 19 to 24
  part_agrees : (s : List ℕ) (header : Section) (room : ℕ)
      → Alike earlier later b (book_part earlier s header room b) (book_part later s header room b)
  unfolding book_part room_check
  part_agrees s header room =
      let same = any_kinds earlier.kinds later.kinds b in
      run _ _ _ _ book_agrees
      (rw (same.0, same.1) (run _ _ _ _ (sum_agrees s header (sum_of (doses_in later.kinds b))) (inl refl)))

-- 2 to 24, and 27 and 28, which name no edition
pub checks_agree : (earlier later : Edition) → IsEdition earlier → IsEdition later → Extends earlier later
    → (s : List ℕ) (room : ℕ) → Alike earlier later (book_of s) (checks_at earlier s room) (checks_at later s room)
unfolding checks_at opened_check
checks_agree earlier later lawful lawful' extends s room =
    same_first (Stops earlier (book_of s)) (StopsAdded earlier later) (sound_check s) _ _
    (run earlier later lawful lawful' extends (book_of s) _ _ _ _
    (rules_agree earlier later lawful lawful' extends (book_of s) s (length s) (signature_at s) (header_at s))
    (same_first (Stops earlier (book_of s)) (StopsAdded earlier later) (digest_check s (signature_at s) (header_at s)) _ _
    (part_agrees earlier later lawful lawful' extends (book_of s) s (header_at s) room)))
