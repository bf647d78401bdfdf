-- Laws of bytes put into a buffer: put_none, put_put, put_length, put_more.
use Prim.Native.Nat.{ℕ, suc, ◌+◌, ◌≤◌, ◌<◌}
use mathlib.Core.Path.{◌≡◌, sym, ap, ◌∙◌}
use mathlib.Core.List.{List, [], ◌∷◌, ◌++◌, append_assoc}
use lib.ListN.{length, take, drop, get_or, set, length-append, length-drop, take-append-drop}
use lib.Seq.{drop-cons, drop-drop, drop_at, take_at, set_at, length-take-le}
use native.Mathlib.Omega.{arith}
use Rattle.text.specs.Lines.{put_at, Put}

pub put_none : (s : List ℕ) (at : ℕ) → Put s at [] at s
unfolding put_at
put_none s at =
    let e : at + 0 ≡ at = omega arith in
    record { place = omega arith; buffer = rw (e, take-append-drop) }

-- bytes right behind bytes
pub put_put : (s : List ℕ) (at : ℕ) (w v : List ℕ) → at + length w ≤ length s
    → put_at (put_at s at w) (at + length w) v ≡ put_at s at (w ++ v)
unfolding put_at
put_put s at w v h =
    let n = at + length w in
    let k : length (take at s ++ w) ≡ n = simp length-append (omega (arith, length-take-le at s (omega arith))) in
    let e : at + length (w ++ v) ≡ n + length v = simp length-append (omega arith) in
    let a = take_at (take at s ++ w) (drop n s) n k in
    let d = drop_at (take at s ++ w) (drop n s) n k in
    let b = sym (drop-drop (length v) n _) ∙ ap (drop (length v)) d ∙ drop-drop (length v) n s in
    rw (e, ← append_assoc (take at s) w (drop n s), a, b) (simp append_assoc)

-- bytes at a place that fit
module _ (s : List ℕ) (at : ℕ) {w : List ℕ} {next : ℕ} {t : List ℕ} (p : Put s at w next t) where
  head_length : at ≤ length s → length (take at s ++ w) ≡ next
  head_length h = simp length-append (omega (arith, p.place, length-take-le at s h))

  pub put_length : at + length w ≤ length s → length t ≡ length s
  unfolding put_at
  put_length h = rw p.buffer (simp (length-append, length-drop) (omega (arith, length-take-le at s (omega arith))))

  -- one byte more
  pub put_more : at + length w < length s → (b : ℕ) → Put s at (w ++ b ∷ []) (next + 1) (set t next b)
  unfolding put_at
  put_more h b =
      let n = at + length w in
      let e : at + length (w ++ b ∷ []) ≡ suc n = simp length-append (omega arith) in
      let k = head_length (omega arith) in
      let q = set_at (take at s ++ w) (get_or s n 0) (drop (suc n) s) b next k in
      record {
        place = simp length-append (omega (arith, p.place));
        buffer = rw (p.buffer, drop-cons s n 0 h, e) (simp append_assoc (simp append_assoc at q));
      }
