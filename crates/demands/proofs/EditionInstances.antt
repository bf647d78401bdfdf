-- The editions by their numbers are editions as request 7 states them (editions_lawful), each extends those before
-- (editions_extend), the third is the second with kind AA (third_edition), and a line that one adds is the batch weight's, to
-- edition 1's (adds_batch).
use Prim.Native.Nat.{ℕ, ◌≤◌, ◌<◌}
use mathlib.Core.Path.{◌≡◌, refl, ap}
use mathlib.Core.Logic.Iff
use mathlib.Core.Logic.{◌↔◌, inl, inr}
use mathlib.Core.List.{List, [], ◌∷◌}
use mathlib.Core.Bool.{Bool, true, false, cond, ◌&&◌, false≢true, and-eq-true_iff}
use lib.ListN.{length, get_or}
use lib.Dec.{eqb}
use native.Mathlib.Omega.{arith}
use borrow.Author.Tests.{leb-true, le-leb, eqb-true, eq-eqb, ne_eqb}
use Rattle.catalogue.specs.declared.Line.{Line}
use Rattle.catalogue.specs.declared.Status.{Status}
use Rattle.catalogue.specs.declared.Status.TheVariants.{Optional, Required, RequiredFrom}
use Rattle.catalogue.specs.Words.{int32}
use Rattle.std.specs.Prelude.{Option, Some, None}
use Rattle.catalogue.specs.Catalogue.{signature_lines, header_lines, no_line, first_edition, in_edition, every}
use Rattle.catalogue.specs.Lists.{had_line, lines_had}
use Rattle.catalogue.proofs.CatalogueLaws.{every_at}
use Rattle.catalogue.proofs.ListLaws.{rises_signature, rises_header, listed_at, each_had, kept}
use Rattle.book.specs.Kinds.{Part, Lot, Other, kind_table, kinds_in}
use Rattle.book.proofs.KindLaws.{kinds_kept, EachRow, each_kind}
use Rattle.reading.specs.Editions.{batch_tag}
use Rattle.demands.specs.Editions.{BeginsDose, batch_line, Added, EditionsLawful, EditionsExtend}
use Rattle.demands.specs.Editions.{ThirdEdition, AddsBatch}
use Rattle.demands.proofs.PassIff.{eqb_iff}

pub editions_extend : EditionsExtend
editions_extend earlier later l =
    record {
      signature = kept earlier later l signature_lines;
      header = kept earlier later l header_lines;
      kinds = λ kind parts. kinds_kept earlier later l kind parts kind_table;
    }

-- where a row of the table of kinds is weighed, its body begins with a dose
abbrev Begins : ℕ → List Part → Type 0
Begins kind parts = 128 ≤ kind → BeginsDose parts

table_begins : EachRow Begins kind_table
unfolding kind_table
table_begins = (
  λ w. absurd (omega arith),
  (λ w. ([], refl), (λ w. absurd (omega arith), (λ w. (Other 2 ∷ [], refl), (λ w. (Lot ∷ [], refl), tt)))),
)

-- tests of the catalogue: edition 1 has every line of the signature, and of the header every one but the batch weight's
abbrev is_one : Option ℕ → Bool
is_one None = false
is_one (Some n) = eqb n 1

abbrev is_from_2 : Status → Bool
is_from_2 Optional = false
is_from_2 Required = false
is_from_2 (RequiredFrom n) = eqb n 2

abbrev is_batch : Line → Bool
is_batch line = eqb line.ty int32 && is_one line.count && is_from_2 line.status

abbrev is_first_or_batch : Line → Bool
is_first_or_batch line = cond (eqb line.tag batch_tag) (is_batch line) (in_edition 1 line)

signature_first : every (in_edition 1) signature_lines ≡ true
unfolding every signature_lines
signature_first = refl

header_first : every is_first_or_batch header_lines ≡ true
unfolding every header_lines
header_first = refl

one_iff : (count : Option ℕ) → (is_one count ≡ true) ↔ (count ≡ Some 1)
one_iff None = (λ h. absurd (false≢true h), λ h. let z : ◌≡◌ {A = ℕ} 0 1 = cc in absurd (omega arith))
one_iff (Some n) = (λ h. ap Some (eqb-true n 1 h), λ h. let e : n ≡ 1 = cc in eq-eqb n 1 e)

from_2_iff : (status : Status) → (is_from_2 status ≡ true) ↔ (status ≡ RequiredFrom 2)
from_2_iff Optional = (λ h. absurd (false≢true h), λ h. let z : ◌≡◌ {A = ℕ} 0 1 = cc in absurd (omega arith))
from_2_iff Required = (λ h. absurd (false≢true h), λ h. let z : ◌≡◌ {A = ℕ} 0 1 = cc in absurd (omega arith))
from_2_iff (RequiredFrom n) = (λ h. ap RequiredFrom (eqb-true n 2 h), λ h. let e : n ≡ 2 = cc in eq-eqb n 2 e)

batch_parts : (line : Line)
    → (is_batch line ≡ true) ↔ (((line.ty ≡ int32) × (line.count ≡ Some 1)) × (line.status ≡ RequiredFrom 2))
batch_parts line = simp (and-eq-true_iff, eqb_iff line.ty, one_iff line.count, from_2_iff line.status) Iff.rfl

is_batch_lem : (line : Line) → line.tag ≡ batch_tag → is_first_or_batch line ≡ true → had_line line ≡ batch_line
is_batch_lem line t h =
    let k = (batch_parts line).0 (rw (eq-eqb _ _ t) at h) in
    λ i. had_line (record { tag = t i; ty = k.0.0 i; count = k.0.1 i; status = k.1 i })

pub editions_lawful : EditionsLawful
editions_lawful edition l =
    record {
      signature_rises = rises_signature edition;
      header_rises = rises_header edition;
      keeps_first = editions_extend 1 edition l;
      weighed = λ kind parts w h. each_kind Begins kind_table table_begins edition kind parts h w;
      batch =
          each_had edition (λ (line : Line). line.tag ≡ batch_tag → line ≡ batch_line) header_lines
          (λ i h e t. is_batch_lem (get_or header_lines i no_line) t (every_at is_first_or_batch header_lines header_first i h));
    }

pub third_edition : ThirdEdition
unfolding lines_had signature_lines header_lines kinds_in kind_table
third_edition =
    record {
      signature = refl;
      header = refl;
      kinds = λ kind h. rw (ne_eqb kind 0xAA h);
      unknown_before = refl;
      body = refl;
    }

-- what holds of the line of each row that the earlier edition does not have holds of each line added
each_added : (earlier later : ℕ) (rows : List Line) (P : Line → Type 0)
    → ((i : ℕ) → i < length rows → (first_edition (get_or rows i no_line).status ≤ earlier → ⊥) → P (had_line (get_or rows i no_line)))
    → (line : Line) → Added (lines_had earlier rows) (lines_had later rows) line → P line
each_added earlier later rows P f line a =
    each_had later (λ (line : Line). Added (lines_had earlier rows) (lines_had later rows) line → P line) rows
    (λ i h e b. f i h (λ m. b.without _ (listed_at earlier rows i h (le-leb _ _ m)) refl))
    line a.listed a

-- every edition has a row that edition 1 has; a row of the header that one does not have is the batch weight's, and it is 1
module _ (edition : ℕ) (l : 1 ≤ edition) (row : Line) where
  has_first : in_edition 1 row ≡ true → first_edition row.status ≤ edition
  has_first h = let k = leb-true (first_edition row.status) 1 h in omega arith

  lacks_batch : (b : Bool) → eqb row.tag batch_tag ≡ b → cond b (is_batch row) (in_edition 1 row) ≡ true
      → (first_edition row.status ≤ edition → ⊥) → (edition ≡ 1) × (row.tag ≡ batch_tag)
  lacks_batch true e h n = let k = ap first_edition ((batch_parts row).0 h).1 in (omega arith, eqb-true _ _ e)
  lacks_batch false e h n = absurd (n (has_first h))

pub adds_batch : AddsBatch
adds_batch earlier later l line (inl a) =
    absurd (each_added earlier later signature_lines (λ (line : Line). ⊥)
    (λ i h n.
    n (has_first earlier l (get_or signature_lines i no_line) (every_at (in_edition 1) signature_lines signature_first i h)))
    line a)
adds_batch earlier later l line (inr a) =
    each_added earlier later header_lines (λ (line : Line). (earlier ≡ 1) × (line.tag ≡ batch_tag))
    (λ i h. lacks_batch earlier l (get_or header_lines i no_line) _ refl
    (every_at is_first_or_batch header_lines header_first i h))
    line a
