-- Which number a name has: the first that matches (first_match), one of those that match (some_match, match_of); what is
-- required where names and versions are string arrays of one count (in_arrays, arrays_of), and what where nothing is
-- (refused_25, refused_first).
use Prim.Native.Nat.{ℕ, zero, suc, ◌+◌, ◌≤◌, ◌<◌}
use mathlib.Core.Path.{◌≡◌, refl, sym, ap, ◌∙◌}
use mathlib.Core.List.{List}
use mathlib.Core.Bool.{Bool, true, false, cond}
use lib.Dec.{eqb}
use native.Mathlib.Omega.{arith}
use borrow.Author.Tests.{eq-eqb, eqb-true, eqb-false}
use Rattle.be.specs.Bytes.{same_bytes}
use Rattle.format.specs.declared.section.Section.{Section}
use Rattle.index.specs.declared.Entry.{Entry}
use Rattle.index.specs.Lookup.{find_in}
use Rattle.package.specs.Package.{sound_check, header_at}
use Rattle.elements.specs.Elements.{element_of}
use Rattle.required.specs.declared.Requirement.{Requirement}
use Rattle.required.specs.Version.{text_of, number_from, requirement_as, requirement_among, requirement_in}
use Rattle.required.specs.Version.{requirement_by, requirement_for}
use Rattle.std.specs.Prelude.{Option, Some, None, Result, Ok, Err}
use Rattle.format.specs.Verdicts.{Verdict, pass, refusal}
use Rattle.format.specs.declared.verdict.Refusal.{Refusal}
use Rattle.format.proofs.VerdictLaws.{refusal_same}

module _ (s name : List ℕ) (names : Entry) where
  -- whether string k of the names is the lent one
  abbrev pub matches : ℕ → Bool
  matches k = same_bytes (text_of s (element_of s names k)) name

  pub first_match : (n k j : ℕ) → k ≤ j → j < k + n → matches j ≡ true
      → ((m : ℕ) → k ≤ m → m < j → matches m ≡ false)
      → number_from s name names n k ≡ Some j
  unfolding number_from
  first_match zero k j a b h f = absurd (omega arith)
  first_match (suc n) k j a b h f = go (eqb k j) refl (first_match n (k + 1) j)
    where
      go : (t : Bool) → eqb k j ≡ t
          → (k + 1 ≤ j → j < k + 1 + n → matches j ≡ true → ((m : ℕ) → k + 1 ≤ m → m < j → matches m ≡ false)
          → number_from s name names n (k + 1) ≡ Some j)
          → cond (matches k) (Some k) (number_from s name names n (k + 1)) ≡ Some j
      go true t g = let e : k ≡ j = eqb-true k j t in rw (e, h)
      go false t g =
          let e = eqb-false k j t in
          rw (f k (omega arith) (omega arith)) (g (omega arith) (omega arith) h (λ m c d. f m (omega arith) d))

  pub some_match : (n k j : ℕ) → k ≤ j → j < k + n → matches j ≡ true
      → (i : ℕ) × (i < k + n) × (number_from s name names n k ≡ Some i)
  unfolding number_from
  some_match zero k j a b h = absurd (omega arith)
  some_match (suc n) k j a b h = go (matches k) refl (some_match n (k + 1) j)
    where
      go : (t : Bool) → matches k ≡ t
          → (k + 1 ≤ j → j < k + 1 + n → matches j ≡ true
          → (i : ℕ) × (i < k + 1 + n) × (number_from s name names n (k + 1) ≡ Some i))
          → (i : ℕ) × (i < k + suc n)
          × (cond t (Some k) (number_from s name names n (k + 1)) ≡ Some i)
      go true t g = (k, omega arith, refl)
      go false t g =
          let d : k ≡ j → ⊥ = λ e. let z : ◌≡◌ {A = Bool} true false = sym h ∙ ap matches (sym e) ∙ t in let y : ◌≡◌ {A = ℕ} 0 1 = cc in omega arith in
          let r = g (omega arith) (omega arith) h in
          (r.0, omega arith, r.2)

  pub match_of : (n k j : ℕ) → number_from s name names n k ≡ Some j → (j < k + n) × (matches j ≡ true)
  unfolding number_from
  match_of zero k j h = let z : ◌≡◌ {A = ℕ} 0 1 = cc in absurd (omega arith)
  match_of (suc n) k j h = go (matches k) refl h (match_of n (k + 1) j)
    where
      go : (t : Bool) → matches k ≡ t → cond t (Some k) (number_from s name names n (k + 1)) ≡ Some j
          → (number_from s name names n (k + 1) ≡ Some j → (j < k + 1 + n) × (matches j ≡ true))
          → (j < k + suc n) × (matches j ≡ true)
      go true t q g = let e : k ≡ j = cc in (omega arith, ap matches (sym e) ∙ t)
      go false t q g = let r = g q in (omega arith, r.1)

-- names and versions are string arrays of one count
module _ (s name : List ℕ) (names versions : Entry) (sound : sound_check s ≡ pass)
    (f : find_in s (header_at s) 1049 8 ≡ Some names) (g : find_in s (header_at s) 1050 8 ≡ Some versions)
    (c : names.count ≡ versions.count) where
  pub in_arrays : requirement_for s name
      ≡ requirement_as (header_at s) versions (number_from s name names names.count 0)
  unfolding requirement_for
  in_arrays = rw (sound, f, g, eq-eqb names.count versions.count c)

-- what is known of a requirement that was found
pub record Arrays (s name : List ℕ) (header : Section) (versions : Entry) (k : ℕ) : Type 0 where
  pub sound : sound_check s ≡ pass
  pub here : header_at s ≡ header
  pub names : Entry
  pub named : find_in s (header_at s) 1049 8 ≡ Some names
  pub versioned : find_in s (header_at s) 1050 8 ≡ Some versions
  pub counts : names.count ≡ versions.count
  pub number : number_from s name names names.count 0 ≡ Some k

module _ (s name : List ℕ) {header : Section} {versions : Entry} {k : ℕ} where
  beside_of : (h : Section) (v : Entry) (n : Option ℕ) → requirement_as h v n ≡ Ok (record { header = header; versions = versions; number = k })
      → (h ≡ header) × (v ≡ versions) × (n ≡ Some k)
  beside_of h v (Some j) e =
      let q : ◌≡◌ {A = Requirement} (record { header = h; versions = v; number = j }) (record { header = header; versions = versions; number = k }) = cc in
      (ap (λ (r : Requirement). r.header) q, ap (λ (r : Requirement). r.versions) q, ap (λ (r : Requirement). Some r.number) q)
  beside_of h v None e = let z : ◌≡◌ {A = ℕ} 0 1 = cc in absurd (omega arith)

  passed : (v : Verdict) (x : Result Requirement Refusal) → requirement_by v x ≡ Ok (record { header = header; versions = versions; number = k })
      → (v ≡ pass) × (x ≡ Ok (record { header = header; versions = versions; number = k }))
  passed (Ok _) x h = (refl, h)
  passed (Err e) x h = let z : ◌≡◌ {A = ℕ} 0 1 = cc in absurd (omega arith)

  among : sound_check s ≡ pass → (f g : Option Entry) → find_in s (header_at s) 1049 8 ≡ f → find_in s (header_at s) 1050 8 ≡ g
      → requirement_among s name (header_at s) f g ≡ Ok (record { header = header; versions = versions; number = k }) → Arrays s name header versions k
  among p (Some names) (Some others) f g h = go (eqb names.count others.count) refl h
    where
      go : (b : Bool) → eqb names.count others.count ≡ b
          → cond b (requirement_as (header_at s) others (number_from s name names names.count 0)) (Err (refusal 25 0))
          ≡ Ok (record { header = header; versions = versions; number = k }) → Arrays s name header versions k
      go true t q =
          let r = beside_of (header_at s) others (number_from s name names names.count 0) q in
          record {
            sound = p;
            here = r.0;
            names = names;
            named = f;
            versioned = g ∙ ap Some r.1;
            counts = eqb-true _ _ t ∙ ap (λ (e : Entry). e.count) r.1;
            number = r.2;
          }
      go false t q = let z : ◌≡◌ {A = ℕ} 0 1 = cc in absurd (omega arith)
  among p (Some names) None f g h = let z : ◌≡◌ {A = ℕ} 0 1 = cc in absurd (omega arith)
  among p None g f e h = let z : ◌≡◌ {A = ℕ} 0 1 = cc in absurd (omega arith)

  pub arrays_of : requirement_for s name ≡ Ok (record { header = header; versions = versions; number = k }) → Arrays s name header versions k
  unfolding requirement_for
  arrays_of h =
      let p = passed (sound_check s) (requirement_in s name (header_at s)) h in
      among p.0 (find_in s (header_at s) 1049 8) (find_in s (header_at s) 1050 8) refl refl p.1

-- where nothing is required
pub refused_first : (s name : List ℕ) {number place : ℕ} → sound_check s ≡ Err (refusal number place)
    → requirement_for s name ≡ Err (refusal number place)
unfolding requirement_for
refused_first s name h = rw h

abbrev pub Only25 : Result Requirement Refusal → Type 0
Only25 r = (number place : ℕ) → r ≡ Err (refusal number place) → (number ≡ 25) × (place ≡ 0)

twenty_five : Only25 (Err (refusal 25 0))
twenty_five number place e = (sym (refusal_same e).0, sym (refusal_same e).1)

missing : (h : Section) (v : Entry) (n : Option ℕ) → Only25 (requirement_as h v n)
missing h v (Some k) = λ number place e. let z : ◌≡◌ {A = ℕ} 0 1 = cc in absurd (omega arith)
missing h v None = twenty_five

among_25 : (s name : List ℕ) (header : Section) (f g : Option Entry) → Only25 (requirement_among s name header f g)
among_25 s name header (Some names) (Some versions) = go (eqb names.count versions.count)
  where
    go : (b : Bool)
        → Only25 (cond b (requirement_as header versions (number_from s name names names.count 0)) (Err (refusal 25 0)))
    go true = missing header versions (number_from s name names names.count 0)
    go false = twenty_five
among_25 s name header (Some names) None = twenty_five
among_25 s name header None g = twenty_five

pub refused_25 : (s name : List ℕ) → sound_check s ≡ pass → Only25 (requirement_for s name)
unfolding requirement_for
refused_25 s name h = rw h (among_25 s name (header_at s) (find_in s (header_at s) 1049 8) (find_in s (header_at s) 1050 8))
