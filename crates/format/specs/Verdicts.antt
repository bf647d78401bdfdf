-- Document 01, "Numbers the station shows": checks run top to bottom; the first failing gives number and place.
use Rattle.std.specs.Prelude.{ℕ, zero, suc, ◌+◌, ◌*◌, Bool, true, false, Result, Ok, Err, ⊤}
use Rattle.format.specs.declared.verdict.Refusal.{Refusal}

-- a number and its place
abbrev pub refusal : ℕ → ℕ → Refusal
refusal number place = record { number = number; place = place }

-- what a run of checks finds, and what a call answers
abbrev pub Verdict : Type 0
Verdict = Result ⊤ Refusal

abbrev pub Answer : Type 0
Answer = Result ℕ Refusal

abbrev pub pass : Verdict
pass = Ok tt

-- one check: where it fails, its number and place decide; else what follows
unfoldable pub check : Bool → ℕ → ℕ → Verdict → Verdict
check true number place rest = rest
check false number place rest = Err (refusal number place)

-- the first failure of two runs of checks
unfoldable pub both : Verdict → Verdict → Verdict
both (Ok _) rest = rest
both (Err e) rest = Err e

-- n checks from number i on, in order
unfoldable pub run_from : (ℕ → Verdict) → ℕ → ℕ → Verdict
run_from checkAt zero i = pass
run_from checkAt (suc n) i = both (checkAt i) (run_from checkAt n (i + 1))

-- the paper's number and place of an answer: success is 0
abbrev pub number_of : Answer → ℕ
number_of (Ok place) = 0
number_of (Err e) = e.number

abbrev pub place_of : Answer → ℕ
place_of (Ok place) = place
place_of (Err e) = e.place

-- for C: number × 2^32 + place
abbrev pub packed_of : Answer → ℕ
packed_of answer = number_of answer * 4294967296 + place_of answer
