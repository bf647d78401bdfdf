-- Checks 1 to 24, and 27, and what they leave in the buffer, for each way through the functions.
use Prim.Native.Nat.{ℕ, ◌≤◌}
use mathlib.Core.Path.{◌≡◌, refl, sym, ap, ◌∙◌}
use mathlib.Core.List.{List, [], ◌∷◌}
use lib.ListN.{length}
use native.Mathlib.Omega.{arith}
use Rattle.format.specs.Sizes.{package_limit}
use Rattle.format.specs.declared.section.Section.{Section}
use Rattle.format.specs.Verdicts.{both, Verdict, Answer, pass}
use Rattle.format.proofs.VerdictLaws.{both_pass, both_fail, both_inverted}
use Rattle.package.specs.declared.Opened.{Opened}
use Rattle.package.specs.Package.{signature_at, header_at, sound_check, opened_as}
use Rattle.package.proofs.OpenLaws.{sound_size}
use Rattle.book.specs.declared.dose.Dose.{Dose}
use Rattle.book.specs.Doses.{doses}
use Rattle.buffer.specs.Buffer.{numbers_of}
use Rattle.octets.specs.Octets.{number_bytes}
use Rattle.reading.specs.Editions.{edition_of}
use Rattle.reading.specs.Reading.{edition_check, book_in, book_of, opened_check, checks_at, reading_check, read_answer}
use Rattle.reading.specs.Weighings.{opened_at, weighing_as, decided}
use Rattle.reading.specs.Buffers.{Form, Numbers, Bytes, room_in, put, left_in, ReadInto}
use Rattle.std.specs.Prelude.{Result, Ok, Err}
use Rattle.format.specs.declared.verdict.Refusal.{Refusal}

-- what a weighing says of the verdict
weighed : (v : Verdict) (n : ℕ) {count : ℕ} → weighing_as v n ≡ Ok count → (v ≡ pass) × (n ≡ count)
weighed (Ok _) n h = (refl, cc)
weighed (Err e) n h = let z : ◌≡◌ {A = ℕ} 0 1 = cc in absurd (omega arith)

unweighed : (v : Verdict) (n : ℕ) {e : Refusal} → weighing_as v n ≡ Err e → v ≡ Err e
unweighed (Ok _) n h = let z : ◌≡◌ {A = ℕ} 0 1 = cc in absurd (omega arith)
unweighed (Err e) n h = cc

-- and what an opened package does
sound_as : (v : Verdict) (a b : Section) {both : Opened} → opened_as v a b ≡ Ok both
    → (v ≡ pass) × (a ≡ both.signature) × (b ≡ both.header)
sound_as (Ok _) a b {both} h =
    let q : record { signature = a; header = b } ≡ both = cc in
    (refl, ap (λ (o : Opened). o.signature) q, ap (λ (o : Opened). o.header) q)
sound_as (Err e) a b h = let z : ◌≡◌ {A = ℕ} 0 1 = cc in absurd (omega arith)

unsound_as : (v : Verdict) (a b : Section) {e : Refusal} → opened_as v a b ≡ Err e → v ≡ Err e
unsound_as (Ok _) a b h = let z : ◌≡◌ {A = ℕ} 0 1 = cc in absurd (omega arith)
unsound_as (Err x) a b h = cc

both_first : (u v w : Verdict) {e : Refusal} → both u v ≡ Err e → both u (both v w) ≡ Err e
unfolding both
both_first (Ok _) v w h = both_fail w h
both_first (Err x) v w h = h

-- where the reading is decided: r is the package as it was opened
module _ (edition : ℕ) (s : List ℕ) (room : ℕ) {r : Result Opened Refusal} (q : r ≡ opened_at edition s) where
  pub unsound_refused : {e : Refusal} → r ≡ Err e → Err e ≡ decided edition s room
  unfolding decided opened_at reading_check checks_at
  unsound_refused k = rw (both_first _ _ _ (unsound_as _ _ _ (sym q ∙ k)))

  module _ {both : Opened} (k : r ≡ Ok both) where
    sound : (edition_check edition ≡ pass) × (sound_check s ≡ pass) × (signature_at s ≡ both.signature) × (header_at s ≡ both.header)
    unfolding opened_at
    sound =
        let f = sound_as _ _ _ (sym q ∙ k) in
        let g = both_inverted _ _ f.0 in
        (g.0, g.1, f.1, f.2)

    pub small : length s ≤ package_limit
    small = sound_size s sound.1

    left : reading_check edition s room ≡ opened_check (edition_of edition) s (signature_at s) (header_at s) room (book_of s)
    unfolding reading_check checks_at
    left = both_pass sound.0 ∙ both_pass sound.1

    -- its book
    pub book_here : {b : List ℕ} → b ≡ book_in s both.header → b ≡ book_of s
    book_here e = e ∙ ap (book_in s) (sym sound.3)

    pub weighing : {b : List ℕ} {w : Answer} → b ≡ book_in s both.header
        → w ≡ weighing_as (opened_check (edition_of edition) s both.signature both.header room b) (length (doses b))
        → w ≡ decided edition s room
    unfolding decided
    weighing {b} e j =
        let f = sound in
        let ed = edition_of edition in
        j
        ∙ ap (λ (x : Section). weighing_as (opened_check ed s x both.header room b) (length (doses b))) (sym f.2)
        ∙ ap (λ (x : Section). weighing_as (opened_check ed s (signature_at s) x room b) (length (doses b))) (sym f.3)
        ∙ ap (λ (l : List ℕ). weighing_as (opened_check ed s (signature_at s) (header_at s) room l) (length (doses l))) (book_here e)
        ∙ ap (λ (v : Verdict). weighing_as v (length (doses (book_of s)))) (sym left)

-- no doses leave a buffer as it was
no_dose : (l : List Dose) → length l ≡ 0 → l ≡ []
no_dose [] h = refl
no_dose (d ∷ l) h = absurd (omega arith)

put_none : (form : Form) (b before : List ℕ) → length (doses b) ≡ 0 → before ≡ put form b before
unfolding numbers_of number_bytes
put_none Numbers b before h = rw (no_dose (doses b) h)
put_none Bytes b before h = rw (no_dose (doses b) h)

-- the answer and the buffer: w is what was decided
module _ (form : Form) (edition : ℕ) (s before : List ℕ) {w : Answer}
    (p : w ≡ decided edition s (room_in form before)) where
  abbrev room : ℕ
  room = room_in form before

  pub read_refused : {e : Refusal} {answer : Answer} → answer ≡ Err e → w ≡ Err e → ReadInto form edition s before answer before
  unfolding decided left_in
  read_refused a h =
      let k = unweighed (reading_check edition s room) _ (sym p ∙ h) in
      record { answered = rw (a, k); buffer = rw k }

  module _ {count : ℕ} (h : w ≡ Ok count) where
    passed : (reading_check edition s room ≡ pass) × (length (doses (book_of s)) ≡ count)
    unfolding decided
    passed = weighed _ _ (sym p ∙ h)

    answered : (Ok count) ≡ read_answer edition s room
    answered = let k = passed in rw k.0 (ap Ok (sym k.1))

    -- without doses nothing is written
    pub read_none : count ≡ 0 → ReadInto form edition s before (Ok count) before
    unfolding left_in
    read_none z =
        let k = passed in
        record { answered = answered; buffer = rw k.0 (put_none form (book_of s) before (k.1 ∙ z)) }

    pub read_accepted : {b after : List ℕ} → b ≡ book_of s → after ≡ put form b before → ReadInto form edition s before (Ok count) after
    unfolding left_in
    read_accepted e k =
        record { answered = answered; buffer = rw passed.0 (k ∙ ap (λ (x : List ℕ). put form x before) e) }
