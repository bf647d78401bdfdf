-- The first difference of two runs of a kind, and how it decides between them (first); the turns of its search (common_turn
-- to common_over); a byte of a kind in front (byte_yes, byte_no), at a place (byte_here to byte_over), and none (none_front).
use Rattle.std.proofs.Common.{◌≡◌, ℕ, ◌+◌, ◌<◌, ◌≤◌, List, [], ◌∷◌, Bool, true, false, cond, ◌&&◌, eqb, leb, length, take, drop, get_or, Some, None}
use Rattle.std.proofs.Common.{nat_cmp, refl, sym, ap, ap₂, ◌∙◌, arith, one-add, eqb-true, eq-eqb, ne_eqb, leb-true, drop_of_length-le}
use Rattle.std.proofs.lemmas.Option.{none-some, same_Some}
use Rattle.std.specs.Cmp.Lexicographic.{slice_cmp}
use Rattle.std.specs.List.{prefix_len}
use Rattle.std.specs.Option.{option_cmp}
use borrow.Author.Tests.{eqb-false, leb-false}
use Rattle.runs.specs.declared.Kind.{Kind}
use Rattle.runs.specs.Runs.{of_kind}
use Rattle.runs.specs.Common.{common, byte_of}
use Rattle.runs.proofs.OrderLaws.{equal, compared, then_equal, then_unlike}
use Rattle.runs.proofs.FrontLaws.{next, front_pass, front_fail}

pub byte_yes : (k : Kind) (b : ℕ) (s : List ℕ) → of_kind k b ≡ true → byte_of k (b ∷ s) ≡ Some b
unfolding byte_of
byte_yes k b s h = rw h

pub byte_no : (k : Kind) (b : ℕ) (s : List ℕ) → of_kind k b ≡ false → byte_of k (b ∷ s) ≡ None
unfolding byte_of
byte_no k b s h = rw h

-- the byte at a place
pub byte_here : (k : Kind) (s : List ℕ) (i : ℕ) {b : ℕ} → i < length s → b ≡ get_or s i 0 → of_kind k b ≡ true
    → Some b ≡ byte_of k (drop i s)
byte_here k s i h e f = sym (ap (byte_of k) (next s i h) ∙ byte_yes k (get_or s i 0) _ (ap (of_kind k) (sym e) ∙ f) ∙ ap Some (sym e))

pub byte_other : (k : Kind) (s : List ℕ) (i : ℕ) {b : ℕ} → i < length s → b ≡ get_or s i 0 → of_kind k b ≡ false
    → None ≡ byte_of k (drop i s)
byte_other k s i h e f = sym (ap (byte_of k) (next s i h) ∙ byte_no k (get_or s i 0) _ (ap (of_kind k) (sym e) ∙ f))

pub byte_over : (k : Kind) (s : List ℕ) (i : ℕ) → length s ≤ i → None ≡ byte_of k (drop i s)
unfolding byte_of
byte_over k s i h = sym (ap (byte_of k) (drop_of_length-le s h))

-- one turn of the search
common_pass : (k : Kind) (a b : ℕ) (s t : List ℕ) → of_kind k a ≡ true → a ≡ b → common k (a ∷ s) (b ∷ t) ≡ 1 + common k s t
unfolding common
common_pass k a b s t h e = rw (h, eq-eqb a b e) refl

common_unlike : (k : Kind) (a b : ℕ) (s t : List ℕ) → (a ≡ b → ⊥) → common k (a ∷ s) (b ∷ t) ≡ 0
unfolding common
common_unlike k a b s t e = rw (ne_eqb a b e) (go (of_kind k a))
  where
    go : (p : Bool) → cond (p && false) (1 + common k s t) 0 ≡ 0
    go true = refl
    go false = refl

common_other : (k : Kind) (a b : ℕ) (s t : List ℕ) → of_kind k a ≡ false → common k (a ∷ s) (b ∷ t) ≡ 0
unfolding common
common_other k a b s t h = rw h refl

module _ (k : Kind) (s t : List ℕ) (i n : ℕ) (inv : n ≡ i + common k (drop i s) (drop i t)) where
  here : i < length s → i < length t
      → common k (drop i s) (drop i t) ≡ common k (get_or s i 0 ∷ drop (i + 1) s) (get_or t i 0 ∷ drop (i + 1) t)
  here h l = ap₂ (common k) (next s i h) (next t i l)

  pub common_turn : i < length s → i < length t → get_or s i 0 ≡ get_or t i 0 → of_kind k (get_or s i 0) ≡ true
      → n ≡ i + 1 + common k (drop (i + 1) s) (drop (i + 1) t)
  common_turn h l e f = omega (arith, here h l, common_pass k _ _ (drop (i + 1) s) (drop (i + 1) t) f e)

  pub common_differ : i < length s → i < length t → (get_or s i 0 ≡ get_or t i 0 → ⊥) → i ≡ n
  common_differ h l d = omega (arith, here h l, common_unlike k _ _ (drop (i + 1) s) (drop (i + 1) t) d)

  pub common_stop : i < length s → i < length t → of_kind k (get_or s i 0) ≡ false → i ≡ n
  common_stop h l f = omega (arith, here h l, common_other k _ (get_or t i 0) (drop (i + 1) s) (drop (i + 1) t) f)

  common_left : length s ≤ i → i ≡ n
  unfolding common
  common_left h = omega (arith, ap (λ (l : List ℕ). common k l (drop i t)) (drop_of_length-le s h))

  common_right : i < length s → length t ≤ i → i ≡ n
  unfolding common
  common_right h l = omega (arith, ap₂ (common k) (next s i h) (drop_of_length-le t l))

  pub common_over : (i < length s → length t ≤ i) → i ≡ n
  common_over h = go (leb (length s) i) refl
    where
      go : (t : Bool) → leb (length s) i ≡ t → i ≡ n
      go true e = common_left (leb-true _ _ e)
      go false e = let l = leb-false _ _ e in common_right l (h l)

-- no byte of the kind in front
pub none_front : (k : Kind) (s : List ℕ) → byte_of k s ≡ None → prefix_len (of_kind k) s ≡ 0
none_front k [] e = refl
none_front k (b ∷ s) e = go (of_kind k b) refl
  where
    go : (t : Bool) → of_kind k b ≡ t → prefix_len (of_kind k) (b ∷ s) ≡ 0
    go true f = absurd (none-some b (sym e ∙ byte_yes k b s f))
    go false f = front_fail (of_kind k) b s f

-- a text's run of a kind, by its first byte
record Headed (k : Kind) (s : List ℕ) : Type 0 where
  some : Bool
  byte : ℕ
  rest : List ℕ
  bytes : take (prefix_len (of_kind k) s) s ≡ cond some (byte ∷ rest) []
  shown : byte_of k s ≡ cond some (Some byte) None

headed : (k : Kind) (s : List ℕ) → Headed k s
unfolding byte_of
headed k [] = record { some = false; byte = 0; rest = []; bytes = refl; shown = refl }
headed k (b ∷ s) =
    record { some = of_kind k b; byte = b; rest = take (prefix_len (of_kind k) s) s; bytes = go (of_kind k b); shown = refl }
  where
    go : (t : Bool) → take (cond t (1 + prefix_len (of_kind k) s) 0) (b ∷ s) ≡ cond t (b ∷ take (prefix_len (of_kind k) s) s) []
    go true = rw (one-add (prefix_len (of_kind k) s)) refl
    go false = refl

heads : (a b : ℕ) (xs ys : List ℕ) (p q : Bool)
    → (cond p (Some a) None ≡ cond q (Some b) None → cond p (Some a) None ≡ None)
    → slice_cmp nat_cmp (cond p (a ∷ xs) []) (cond q (b ∷ ys) []) ≡ option_cmp nat_cmp (cond p (Some a) None) (cond q (Some b) None)
heads a b xs ys true true n = then_unlike a b (compared a b) (λ e. none-some a (sym (n (ap Some e)))) _
heads a b xs ys true false n = refl
heads a b xs ys false true n = refl
heads a b xs ys false false n = refl

-- what holds at the first difference of two runs, n bytes behind their start
pub record First (k : Kind) (s t : List ℕ) (n : ℕ) : Type 0 where
  pub order : slice_cmp nat_cmp (take (prefix_len (of_kind k) s) s) (take (prefix_len (of_kind k) t) t)
      ≡ option_cmp nat_cmp (byte_of k (drop n s)) (byte_of k (drop n t))
  pub left : prefix_len (of_kind k) s ≡ n + prefix_len (of_kind k) (drop n s)
  pub right : prefix_len (of_kind k) t ≡ n + prefix_len (of_kind k) (drop n t)
  pub ends : byte_of k (drop n s) ≡ byte_of k (drop n t) → byte_of k (drop n s) ≡ None

module _ (k : Kind) where
  at_once : (s t : List ℕ) → (byte_of k s ≡ byte_of k t → byte_of k s ≡ None) → First k s t 0
  at_once s t n =
      let p = headed k s in
      let q = headed k t in
      record {
        order =
            ap₂ (slice_cmp nat_cmp) p.bytes q.bytes
            ∙ heads p.byte q.byte p.rest q.rest p.some q.some (λ e. sym p.shown ∙ n (p.shown ∙ e ∙ sym q.shown))
            ∙ sym (ap₂ (option_cmp nat_cmp) p.shown q.shown);
        left = omega arith;
        right = omega arith;
        ends = n;
      }

  pub first : (s t : List ℕ) → First k s t (common k s t)
  unfolding common byte_of
  first [] t = at_once [] t (λ e. refl)
  first (a ∷ s) [] = at_once (a ∷ s) [] (λ e. e)
  first (a ∷ s) (b ∷ t) = go (of_kind k a) (eqb a b) refl refl (first s t)
    where
      go : (p q : Bool) → of_kind k a ≡ p → eqb a b ≡ q → First k s t (common k s t)
          → First k (a ∷ s) (b ∷ t) (cond (p && q) (1 + common k s t) 0)
      go true true e f r =
          let d : a ≡ b = eqb-true a b f in
          let g : of_kind k b ≡ true = ap (of_kind k) (sym d) ∙ e in
          record {
            order =
                rw (one-add (common k s t))
                (ap₂ (λ (m n : ℕ). slice_cmp nat_cmp (take m (a ∷ s)) (take n (b ∷ t)))
                (front_pass (of_kind k) a s e ∙ one-add _) (front_pass (of_kind k) b t g ∙ one-add _)
                ∙ then_equal _ (equal a b d) ∙ r.order);
            left = rw (one-add (common k s t)) (omega (arith, front_pass (of_kind k) a s e, r.left));
            right = rw (one-add (common k s t)) (omega (arith, front_pass (of_kind k) b t g, r.right));
            ends = rw (one-add (common k s t)) r.ends;
          }
      go true false e f r = at_once (a ∷ s) (b ∷ t) (λ d. other (of_kind k b) refl d)
        where
          other : (u : Bool) → of_kind k b ≡ u → byte_of k (a ∷ s) ≡ byte_of k (b ∷ t) → byte_of k (a ∷ s) ≡ None
          other true g d = absurd (eqb-false a b f (same_Some a b (sym (byte_yes k a s e) ∙ d ∙ byte_yes k b t g)))
          other false g d = d ∙ byte_no k b t g
      go false q e f r = at_once (a ∷ s) (b ∷ t) (λ d. byte_no k a s e)
