-- How two runs meet, in the shape of what the code knows: pairs in front (zip_front), which has more digits (more_digits),
-- letters (letters_unlike, letters_same, no_letters), digits (no_digits, digits_unlike, digits_same).
use Rattle.std.proofs.Common.{◌≡◌, ℕ, ◌+◌, ◌-◌, ◌≤◌, List, [], ◌∷◌, Bool, true, false, cond, ◌&&◌, length, take, drop, zip}
use Rattle.std.proofs.Common.{Option, Some, None, Ok, Err, is_some, Ordering, Less, Equal, Greater, nat_cmp, refl, sym, ap, ap₂, ◌∙◌, arith, one-add}
use Rattle.std.proofs.lemmas.List.Folds.{length-prefix_len}
use Rattle.std.specs.List.{prefix_len, common_prefix_len}
use Rattle.std.specs.Option.{option_cmp}
use Rattle.std.specs.Ordering.{bool_cmp}
use Rattle.runs.specs.declared.Kind.{Kind}
use Rattle.runs.specs.Runs.{rank, letter, digit, of_kind, is_zero, by_run, front_run, met}
use Rattle.runs.specs.Common.{common, byte_of, by_first}
use Rattle.runs.proofs.OrderLaws.{less, more, equal, compared, equal_means, both_equal, then_equal}
use Rattle.runs.proofs.FrontLaws.{part_rest, zeros_front}
use Rattle.runs.proofs.CommonLaws.{First, first, none_front}
use Rattle.runs.proofs.ValueLaws.{by_digits, added}

-- how many pairs of two lists pass a test, from the front on
passing : (e : ℕ → ℕ → Bool) (s t : List ℕ) → prefix_len (λ (p : ℕ × ℕ). e p.0 p.1) (zip s t) ≡ common_prefix_len e s t
passing e [] t = refl
passing e (a ∷ s) [] = refl
passing e (a ∷ s) (b ∷ t) = ap (λ (n : ℕ). cond (e a b) (1 + n) 0) (passing e s t)

pub zip_front : (e : ℕ → ℕ → Bool) (s t : List ℕ)
    → length (take (prefix_len (λ (p : ℕ × ℕ). e p.0 p.1) (zip s t)) (zip s t)) ≡ common_prefix_len e s t
zip_front e s t = length-prefix_len (λ (p : ℕ × ℕ). e p.0 p.1) (zip s t) ∙ passing e s t

-- behind the digits that both have, the one that goes on has more
abbrev pub both : List ℕ → List ℕ → ℕ
both s t = common_prefix_len (λ a b. of_kind digit a && of_kind digit b) s t

more_behind : (s t : List ℕ)
    → bool_cmp (is_some (byte_of digit (drop (both s t) s))) (is_some (byte_of digit (drop (both s t) t)))
    ≡ nat_cmp (prefix_len (of_kind digit) s) (prefix_len (of_kind digit) t)
unfolding byte_of
more_behind [] [] = refl
more_behind [] (b ∷ t) = go (of_kind digit b)
  where
    go : (q : Bool) → bool_cmp false (is_some (cond q (Some b) None)) ≡ nat_cmp 0 (cond q (1 + prefix_len (of_kind digit) t) 0)
    go true = sym (less 0 (1 + prefix_len (of_kind digit) t) (omega arith))
    go false = refl
more_behind (a ∷ s) [] = go (of_kind digit a)
  where
    go : (p : Bool) → bool_cmp (is_some (cond p (Some a) None)) false ≡ nat_cmp (cond p (1 + prefix_len (of_kind digit) s) 0) 0
    go true = sym (more (1 + prefix_len (of_kind digit) s) 0 (omega arith))
    go false = refl
more_behind (a ∷ s) (b ∷ t) = go (of_kind digit a) (of_kind digit b) refl refl (more_behind s t)
  where
    go : (p q : Bool) → of_kind digit a ≡ p → of_kind digit b ≡ q
        → bool_cmp (is_some (byte_of digit (drop (both s t) s))) (is_some (byte_of digit (drop (both s t) t)))
        ≡ nat_cmp (prefix_len (of_kind digit) s) (prefix_len (of_kind digit) t)
        → bool_cmp (is_some (byte_of digit (drop (cond (p && q) (1 + both s t) 0) (a ∷ s))))
        (is_some (byte_of digit (drop (cond (p && q) (1 + both s t) 0) (b ∷ t))))
        ≡ nat_cmp (cond p (1 + prefix_len (of_kind digit) s) 0) (cond q (1 + prefix_len (of_kind digit) t) 0)
    go true true e f r =
        rw (one-add (both s t)) (r ∙ sym (added 1 (prefix_len (of_kind digit) s) (prefix_len (of_kind digit) t) (compared _ _)))
    go true false e f r = rw (e, f) (sym (more (1 + prefix_len (of_kind digit) s) 0 (omega arith)))
    go false true e f r = rw (e, f) (sym (less 0 (1 + prefix_len (of_kind digit) t) (omega arith)))
    go false false e f r = rw (e, f) refl

pub more_digits : (s t : List ℕ) {n : ℕ} {x y : Option ℕ} → n ≡ both s t
    → x ≡ byte_of digit (drop n s) → y ≡ byte_of digit (drop n t)
    → bool_cmp (is_some x) (is_some y) ≡ nat_cmp (prefix_len (of_kind digit) s) (prefix_len (of_kind digit) t)
more_digits s t e p q = rw (p, q, e) (more_behind s t)

equal_options : (x y : Option ℕ) → option_cmp nat_cmp x y ≡ Equal → x ≡ y
equal_options None None e = refl
equal_options None (Some b) e = absurd (grind arith)
equal_options (Some a) None e = absurd (grind arith)
equal_options (Some a) (Some b) e = ap Some (equal_means a b (compared a b) e)

-- where neither has a byte, both are the same
none_is : (x : Option ℕ) → is_some x ≡ false → x ≡ None
none_is None e = refl
none_is (Some a) e = absurd (grind arith)

both_none : (x y : Option ℕ) → is_some x ≡ false → is_some y ≡ false → Equal ≡ option_cmp nat_cmp x y
both_none x y e f = rw (none_is x e, none_is y f) refl

pub no_digits : (s t : List ℕ) {x y : Option ℕ} → x ≡ byte_of digit s → y ≡ byte_of digit t
    → is_some x ≡ false → is_some y ≡ false → Equal ≡ by_first s t
unfolding by_first
no_digits s t {x} {y} p q e f =
    let u = none_front digit s (sym p ∙ none_is x e) in
    let v = none_front digit t (sym q ∙ none_is y f) in
    sym (then_equal _ (equal _ _ (u ∙ sym v)) ∙ sym (both_none x y e f ∙ ap₂ (option_cmp nat_cmp) p q))

-- how two runs stand to each other, and what is answered
module _ (k : Kind) (s t : List ℕ) where
  met_unlike : {o : Ordering} → by_run (front_run k s) (front_run k t) ≡ o → (o ≡ Equal → ⊥) → Err o ≡ met k s t
  unfolding met
  met_unlike {o = Less} h n = rw h
  met_unlike {o = Equal} h n = absurd (n refl)
  met_unlike {o = Greater} h n = rw h

  met_same : {m n : ℕ} → by_run (front_run k s) (front_run k t) ≡ Equal → m ≡ prefix_len (of_kind k) s → n ≡ prefix_len (of_kind k) t
      → Ok (m, n) ≡ met k s t
  unfolding met
  met_same h e f = rw (h, ← e, ← f)

-- letters
module _ (s t : List ℕ) {n : ℕ} (b : n ≡ common letter s t)
    {x y : Option ℕ} (p : x ≡ byte_of letter (drop n s)) (q : y ≡ byte_of letter (drop n t))
    {o : Ordering} (d : o ≡ option_cmp nat_cmp x y) where
  at : First letter s t n
  at = rw b (first letter s t)

  by_letters : by_run (front_run letter s) (front_run letter t) ≡ o
  unfolding by_run front_run
  by_letters = then_equal _ (equal (rank letter) (rank letter) refl) ∙ at.order ∙ sym (d ∙ ap₂ (option_cmp nat_cmp) p q)

  pub letters_unlike : (o ≡ Equal → ⊥) → Err o ≡ met letter s t
  letters_unlike n = met_unlike letter s t by_letters n

  pub letters_same : o ≡ Equal → Ok (n, n) ≡ met letter s t
  letters_same h =
      let a = at in
      let e = equal_options x y (sym d ∙ h) in
      let z = a.ends (sym p ∙ e ∙ q) in
      met_same letter s t (by_letters ∙ h)
      (omega (arith, a.left, none_front letter (drop n s) z))
      (omega (arith, a.right, none_front letter (drop n t) (sym q ∙ sym e ∙ p ∙ z)))

pub no_letters : (s t : List ℕ) {n : ℕ} → n ≡ common letter s t
    → {x y : Option ℕ} → x ≡ byte_of letter (drop n s) → y ≡ byte_of letter (drop n t)
    → is_some x ≡ false → is_some y ≡ false → Ok (n, n) ≡ met letter s t
no_letters s t b {x} {y} p q e f = letters_same s t b p q (both_none x y e f) refl

-- where no run goes on behind the bytes in common, both end there
same_first : (s t : List ℕ) → (byte_of digit s ≡ byte_of digit t → byte_of digit s ≡ None) → by_first s t ≡ Equal
    → (prefix_len (of_kind digit) s ≡ 0) × (prefix_len (of_kind digit) t ≡ 0)
unfolding by_first
same_first s t n h =
    let r = both_equal _ _ h in
    let e = equal_options _ _ r.1 in
    let z = n e in
    (none_front digit s z, none_front digit t (sym e ∙ z))

-- digits; the code's parts are what stands behind the zeros in front, and behind the bytes in common
behind_zeros : (s : List ℕ) {i : ℕ} → i ≡ prefix_len is_zero s → take (length s - i) (drop i s) ≡ drop (prefix_len is_zero s) s
behind_zeros s {i} h = part_rest s i ∙ ap (λ m. drop m s) h

module _ (s t : List ℕ) {i j n : ℕ} (f : (i ≡ prefix_len is_zero s) × (i ≤ length s)) (g : (j ≡ prefix_len is_zero t) × (j ≤ length t))
    (b : (n ≡ common digit (take (length s - i) (drop i s)) (take (length t - j) (drop j t)))
    × (n ≤ length (take (length s - i) (drop i s))) × (n ≤ length (take (length t - j) (drop j t))))
    {o : Ordering}
    (d : o ≡ by_first (take (length (take (length s - i) (drop i s)) - n) (drop n (take (length s - i) (drop i s))))
    (take (length (take (length t - j) (drop j t)) - n) (drop n (take (length t - j) (drop j t))))) where
  shared : n ≡ common digit (drop (prefix_len is_zero s) s) (drop (prefix_len is_zero t) t)
  shared = b.0 ∙ ap₂ (common digit) (behind_zeros s f.0) (behind_zeros t g.0)

  decided : by_run (front_run digit s) (front_run digit t) ≡ o
  decided =
      by_digits s t
      ∙ sym (d ∙ ap₂ by_first
      (part_rest _ n ∙ ap₂ (drop {A = ℕ}) shared (behind_zeros s f.0))
      (part_rest _ n ∙ ap₂ (drop {A = ℕ}) shared (behind_zeros t g.0)))

  pub digits_unlike : (o ≡ Equal → ⊥) → Err o ≡ met digit s t
  digits_unlike n = met_unlike digit s t decided n

  pub digits_same : o ≡ Equal → Ok (i + n, j + n) ≡ met digit s t
  digits_same h =
      let a = first digit (drop (prefix_len is_zero s) s) (drop (prefix_len is_zero t) t) in
      let e = same_first _ _ a.ends (sym (by_digits s t) ∙ decided ∙ h) in
      met_same digit s t (decided ∙ h)
      (omega (arith, shared, zeros_front s, a.left, e.0, f.0))
      (omega (arith, shared, zeros_front t, a.right, e.1, g.0))
