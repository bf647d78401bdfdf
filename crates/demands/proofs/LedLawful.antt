-- Groups of three tags led by one of them, in check 17, pass exactly where they are lawful: same_lawful, first_led,
-- second_led.
use Prim.Native.Nat.{ℕ}
use mathlib.Core.Path.{◌≡◌, refl}
use mathlib.Core.Logic.Iff
use mathlib.Core.Logic.{◌↔◌, ◌⊎◌, inl, inr, ⊎_map}
use mathlib.Core.List.{List}
use mathlib.Core.Bool.{true, ◌||◌}
use lib.Dec.{eqb}
use Rattle.format.specs.declared.section.Section.{Section}
use Rattle.index.specs.Lookup.{tagged_in}
use Rattle.tags.specs.Tags.{has, count_in}
use Rattle.groups.specs.Groups.{whole_check, led_check}
use Rattle.demands.specs.Lawful.{HasTag, SameCount, LawfulLed}
use Rattle.demands.proofs.PassIff.{check_iff, eqb_iff, cond_iff, one_iff}
use Rattle.demands.proofs.TagLawful.{has_tag_lem}
use Rattle.demands.proofs.FoundLawful.{Apart, count_iff, same_count_iff}
use Rattle.format.specs.Verdicts.{pass}

-- a count that equals that of a tag that is present
pub same_lawful : (s : List ℕ) (header : Section) → Apart s header
    → (leader : ℕ) → HasTag s header leader → (tag : ℕ) → HasTag s header tag
    → (eqb (count_in (tagged_in s header) tag) (count_in (tagged_in s header) leader) ≡ true) ↔ SameCount s header tag leader
same_lawful s header apart leader led tag h =
    simp (eqb_iff, count_iff s header apart tag, same_count_iff s header apart leader) Iff.rfl

-- three tags: all present, one of them present, counts equal to the leader's
abbrev AllOf : List ℕ → Section → ℕ → ℕ → ℕ → Type 0
AllOf s header a b c = HasTag s header a × HasTag s header b × HasTag s header c

abbrev OneOf : List ℕ → Section → ℕ → ℕ → ℕ → Type 0
OneOf s header a b c = HasTag s header a ⊎ HasTag s header b ⊎ HasTag s header c

abbrev SameAs : List ℕ → Section → ℕ → ℕ → ℕ → ℕ → Type 0
SameAs s header leader a b c = SameCount s header a leader × SameCount s header b leader × SameCount s header c leader

one_lawful : (s : List ℕ) (header : Section) (a b c : ℕ)
    → ((has (tagged_in s header) a || has (tagged_in s header) b || has (tagged_in s header) c) ≡ true) ↔ OneOf s header a b c
one_lawful s header a b c =
    simp one_iff (
      ⊎_map (has_tag_lem s header a).0 (⊎_map (has_tag_lem s header b).0 (has_tag_lem s header c).0),
      ⊎_map (has_tag_lem s header a).1 (⊎_map (has_tag_lem s header b).1 (has_tag_lem s header c).1),
    )

module _ (s : List ℕ) (header : Section) (apart : Apart s header) (leader a b c : ℕ)
    (lead : AllOf s header a b c → HasTag s header leader) where
  whole_lawful : (whole_check (tagged_in s header) (count_in (tagged_in s header) leader) a b c ≡ pass)
      ↔ (AllOf s header a b c × SameAs s header leader a b c)
  unfolding whole_check
  whole_lawful =
      simp (check_iff, has_tag_lem) (
        λ h. let all : AllOf s header a b c = (h.0, h.1.0, h.1.1.0) in
            let eq = same_lawful s header apart leader (lead all) in
            let k = h.1.1.1 in
            (all, ((eq a all.0).0 k.0, (eq b all.1).0 k.1.0, (eq c all.2).0 k.1.1.0)),
        λ h. let all = h.0 in
            let eq = same_lawful s header apart leader (lead all) in
            let k = (eq c all.2).1 h.1.2 in
            (all.0, (all.1, (all.2, ((eq a all.0).1 h.1.0, ((eq b all.1).1 h.1.1, (k, refl)))))),
      )

  led_lawful : (HasTag s header leader → OneOf s header a b c)
      → (led_check (tagged_in s header) leader a b c ≡ pass) ↔ LawfulLed s header leader a b c
  unfolding led_check
  led_lawful one =
      simp (cond_iff, one_lawful, whole_lawful) (
        λ h. record {
          whole = λ k. (h k).0;
          counts = (
            λ i l q. (h (one (i, l, q))).1.0 i l q,
            λ i l q. (h (one (i, l, q))).1.1 i l q,
            λ i l q. (h (one (i, l, q))).1.2 i l q,
          );
        },
        λ r k. (r.whole k, r.counts),
      )

-- the leader stands first or second
pub first_led : (s : List ℕ) (header : Section) → Apart s header → (a b c : ℕ)
    → (led_check (tagged_in s header) a a b c ≡ pass) ↔ LawfulLed s header a a b c
first_led s header apart a b c = led_lawful s header apart a a b c (λ h. h.0) inl

pub second_led : (s : List ℕ) (header : Section) → Apart s header → (a b c : ℕ)
    → (led_check (tagged_in s header) b a b c ≡ pass) ↔ LawfulLed s header b a b c
second_led s header apart a b c = led_lawful s header apart b a b c (λ h. h.1) (λ h. inr (inl h))
