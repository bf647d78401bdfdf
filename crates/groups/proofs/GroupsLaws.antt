-- The pairs and the led groups as runs of checks (signature_run, script_run, led_run), and check 17 with the file groups as one
-- (groups_as).
use Rattle.std.proofs.Common.{ℕ, ◌≡◌, refl, sym, ap, ◌∙◌, List, [], ◌∷◌, get_or, Bool, true, false, cond, ◌||◌}
use Rattle.std.specs.List.{list_any}
use Rattle.format.specs.declared.section.Section.{Section}
use Rattle.format.specs.Verdicts.{both, run_from, Verdict, pass}
use Rattle.format.proofs.RunLaws.{both_end, both_assoc}
use Rattle.tags.specs.Tags.{Look, has, count_in}
use Rattle.files.specs.Files.{all_are, present_check, counted_check, files_check, names_check, file_groups}
use Rattle.files.proofs.LadderLaws.{three}
use Rattle.locales.specs.Locales.{locales_check}
use Rattle.groups.specs.declared.LedGroup.{LedGroup}
use Rattle.groups.specs.Groups.{needs_check, pairs_check, signature_pairs, script_pairs, whole_check, led_check, led_by, led_groups, groups_check}

abbrev pub led_as : ℕ → ℕ → ℕ → ℕ → LedGroup
led_as leader a b c = record { leader = leader; tags = a ∷ b ∷ c ∷ [] }

-- the table of the led groups
abbrev pub led_table : List LedGroup
led_table =
    led_as 1049 1048 1049 1050 ∷
    led_as 1047 1047 1112 1113 ∷
    led_as 1054 1053 1054 1055 ∷
    led_as 1090 1090 1114 1115 ∷
    led_as 1081 1080 1081 1082 ∷ []

module _ (look : Look) where
  pub signature_run : pairs_check look ((1011, 1005) ∷ (1012, 1002) ∷ []) ≡ signature_pairs look
  unfolding run_from signature_pairs
  signature_run = ap (both (needs_check look 1011 1005)) (both_end (needs_check look 1012 1002))

  pub script_run : pairs_check look ((1023, 1085) ∷ (1024, 1086) ∷ (1025, 1087) ∷ (1026, 1088) ∷ []) ≡ script_pairs look
  unfolding run_from script_pairs
  script_run =
      ap
      (λ (v : Verdict). both (needs_check look 1023 1085) (both (needs_check look 1024 1086) (both (needs_check look 1025 1087) v)))
      (both_end (needs_check look 1026 1088))

  whole_as : (n a b c : ℕ) → whole_check look n a b c
      ≡ both (present_check look (a ∷ b ∷ c ∷ [])) (counted_check look n (a ∷ b ∷ c ∷ []))
  unfolding whole_check all_are
  whole_as n a b c = three (has look) a b c _

  last : (a b c : Bool) → (a || b || c) ≡ (a || (b || (c || false)))
  last true b c = refl
  last false true c = refl
  last false false true = refl
  last false false false = refl

  led_is : (leader a b c : ℕ) → led_check look leader a b c ≡ led_by look (led_as leader a b c)
  unfolding led_check
  led_is leader a b c =
      ap (λ (t : Bool). cond t (whole_check look (count_in look leader) a b c) pass) (last (has look a) (has look b) (has look c))
      ∙ ap (λ (v : Verdict). cond (list_any (has look) (a ∷ b ∷ c ∷ [])) v pass) (whole_as (count_in look leader) a b c)

  abbrev pub led_at : ℕ → Verdict
  led_at i = led_by look (get_or led_table i (record { leader = 0; tags = [] }))

  pub led_run : led_groups look ≡ run_from led_at 5 0
  unfolding run_from led_groups
  led_run =
      rw (
        led_is 1049 1048 1049 1050,
        led_is 1047 1047 1112 1113,
        led_is 1054 1053 1054 1055,
        led_is 1090 1090 1114 1115,
        led_is 1081 1080 1081 1082,
      )
      (ap
      (λ (v : Verdict). both (led_at 0) (both (led_at 1) (both (led_at 2) (both (led_at 3) v))))
      (sym (both_end (led_at 4))))

pub groups_as : (s : List ℕ) (header : Section) (inSignature inHeader : Look) → groups_check s header inSignature inHeader
    ≡ both (signature_pairs inSignature) (both (script_pairs inHeader) (both (file_groups inHeader)
    (both (led_groups inHeader) (locales_check s header (count_in inHeader 100)))))
unfolding groups_check
groups_as s header inSignature inHeader =
    ap (λ (v : Verdict). both (signature_pairs inSignature) (both (script_pairs inHeader) v))
    (sym (both_assoc (files_check inHeader) (names_check inHeader (count_in inHeader 1028)) _))
