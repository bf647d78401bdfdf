-- Laws of the catalogue: how many lines a part has (length_signature, length_header) and which (signature_at, header_at_lem);
-- what a test of every line says of one (every_at, each_line), and a test of rising tags of the first two (rising_parts); the rule,
-- from one test over the whole table (lawful_of_test, lawful, parts_rise).
use Prim.Native.Nat.{ℕ, zero, suc, ◌+◌, ◌-◌, ◌≤◌, ◌<◌}
use mathlib.Core.Path.{◌≡◌, refl, ap, ◌∙◌}
use mathlib.Core.List.{List, [], ◌∷◌}
use mathlib.Core.Bool.{Bool, true, ◌&&◌, and-eq-true_iff}
use lib.Dec.{ltb}
use lib.ListN.{length, get_or, get_or-append}
use lib.Seq.{get_or-append-add}
use native.Mathlib.Nat.{lt_trans}
use native.Mathlib.Omega.{arith}
use borrow.Author.Tests.{ltb-true}
use Rattle.catalogue.specs.declared.Line.{Line}
use Rattle.catalogue.specs.Catalogue.{signature_lines, header_lines, catalogue, signature_count, line_count}
use Rattle.catalogue.specs.Catalogue.{no_line, line_at, is_rising, every}
use Rattle.catalogue.specs.Catalogue.{is_lawful_type, is_lawful_line, is_lawful_catalogue, LawfulCatalogue}

pub length_signature : length signature_lines ≡ signature_count
unfolding signature_lines
length_signature = refl

pub length_header : length header_lines ≡ line_count - signature_count
unfolding header_lines
length_header = refl

length_catalogue : length catalogue ≡ line_count
unfolding catalogue signature_lines header_lines
length_catalogue = refl

-- a line of each part
pub signature_at : (i : ℕ) → i < signature_count → line_at i ≡ get_or signature_lines i no_line
unfolding line_at catalogue
signature_at i h = get_or-append signature_lines header_lines no_line i (rw length_signature h)

pub header_at_lem : (i : ℕ) → signature_count ≤ i → line_at i ≡ get_or header_lines (i - signature_count) no_line
unfolding line_at catalogue
header_at_lem i h =
    let e : i ≡ length signature_lines + (i - signature_count) = omega (arith, length_signature) in
    ap (λ (k : ℕ). get_or catalogue k no_line) e
    ∙ get_or-append-add signature_lines header_lines (i - signature_count) no_line

-- what a test over a list says of one line
pub every_at : (test : Line → Bool) (rows : List Line) → every test rows ≡ true
    → (i : ℕ) → i < length rows → test (get_or rows i no_line) ≡ true
unfolding every
every_at test [] t i h = absurd (omega arith)
every_at test (a ∷ rest) t zero h = ((and-eq-true_iff (test a) (every test rest)).0 t).0
every_at test (a ∷ rest) t (suc i) h =
    every_at test rest ((and-eq-true_iff (test a) (every test rest)).0 t).1 i (omega arith)

pub each_line : (test : Line → Bool) → every test catalogue ≡ true → (i : ℕ) → i < line_count → test (line_at i) ≡ true
unfolding line_at
each_line test t i h = every_at test catalogue t i (rw length_catalogue h)

-- the first two rise, and so does the rest
pub rising_parts : (a b : Line) (rest : List Line) → is_rising (a ∷ b ∷ rest) ≡ true
    → (a.tag < b.tag) × (is_rising (b ∷ rest) ≡ true)
unfolding is_rising
rising_parts a b rest t =
    let k = (and-eq-true_iff (ltb a.tag b.tag) (is_rising (b ∷ rest))).0 t in
    (ltb-true a.tag b.tag k.0, k.1)

rising_at : (rows : List Line) → is_rising rows ≡ true
    → (i j : ℕ) → i < j → j < length rows → (get_or rows i no_line).tag < (get_or rows j no_line).tag
rising_at [] t i j l h = absurd (omega arith)
rising_at (a ∷ []) t i j l h = absurd (omega arith)
rising_at (a ∷ b ∷ rest) t i zero l h = absurd (omega arith)
rising_at (a ∷ b ∷ rest) t zero (suc zero) l h = (rising_parts a b rest t).0
rising_at (a ∷ b ∷ rest) t zero (suc (suc j)) l h =
    let p = rising_parts a b rest t in
    lt_trans p.0 (rising_at (b ∷ rest) p.1 zero (suc j) (omega arith) (omega arith))
rising_at (a ∷ b ∷ rest) t (suc i) (suc j) l h =
    rising_at (b ∷ rest) (rising_parts a b rest t).1 i j (omega arith) (omega arith)

signature_rises_lem : is_rising signature_lines ≡ true
    → (i j : ℕ) → i < j → j < signature_count → (line_at i).tag < (line_at j).tag
signature_rises_lem t i j l h =
    rw (signature_at i (omega arith), signature_at j h) (rising_at signature_lines t i j l (rw length_signature h))

header_rises_lem : is_rising header_lines ≡ true
    → (i j : ℕ) → signature_count ≤ i → i < j → j < line_count → (line_at i).tag < (line_at j).tag
header_rises_lem t i j from l h =
    rw (header_at_lem i from, header_at_lem j (omega arith))
    (rising_at header_lines t (i - signature_count) (j - signature_count) (omega arith) (omega (arith, length_header)))

-- the test's parts
parts : is_lawful_catalogue ≡ true
    → ((is_rising signature_lines ≡ true) × (is_rising header_lines ≡ true)) × (every is_lawful_line catalogue ≡ true)
unfolding is_lawful_catalogue
parts t =
    let all = (and-eq-true_iff (is_rising signature_lines && is_rising header_lines) (every is_lawful_line catalogue)).0 t in
    ((and-eq-true_iff (is_rising signature_lines) (is_rising header_lines)).0 all.0, all.1)

-- the test says the rule at each line
pub lawful_of_test : is_lawful_catalogue ≡ true → LawfulCatalogue
lawful_of_test t =
    record {
      signature_rises = signature_rises_lem (parts t).0.0;
      header_rises = header_rises_lem (parts t).0.1;
      types_lawful = each_line is_lawful_line (parts t).1;
    }

-- and it passes
test_passes : is_lawful_catalogue ≡ true
unfolding is_lawful_catalogue is_rising every is_lawful_type catalogue signature_lines header_lines
test_passes = refl

pub lawful : LawfulCatalogue
lawful = lawful_of_test test_passes

pub parts_rise : (is_rising signature_lines ≡ true) × (is_rising header_lines ≡ true)
parts_rise = (parts test_passes).0
