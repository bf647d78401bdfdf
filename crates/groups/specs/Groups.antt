-- Document 01, "Catalogue", groups (check 17), in its order. Unless said otherwise the place is the lowest missing tag,
-- else the lowest tag whose count differs. A structure is what it shows for each tag; the last group, request 2's, asks the
-- header's index.
use Rattle.std.specs.List.{list_any}
use Rattle.std.specs.Prelude.{ℕ, List, cond, not, ◌||◌, length, get_or, eqb}
use Rattle.format.specs.declared.section.Section.{Section}
use Rattle.format.specs.Verdicts.{check, both, run_from, Verdict, pass}
use Rattle.tags.specs.Tags.{Look, has, count_in}
use Rattle.files.specs.Files.{files_check, names_check, present_check, counted_check}
use Rattle.groups.specs.declared.LedGroup.{LedGroup}
use Rattle.locales.specs.Locales.{locales_check}

-- one tag needs another
unfoldable pub needs_check : Look → ℕ → ℕ → Verdict
needs_check look tag other = check (not (has look tag) || has look other) 17 other pass

-- pairs, each a tag and the one that it needs
abbrev pub pairs_check : Look → List (ℕ × ℕ) → Verdict
pairs_check look pairs =
    run_from (λ (i : ℕ). needs_check look (get_or pairs i (0, 0)).0 (get_or pairs i (0, 0)).1) (length pairs) 0

-- the signature's 1011 needs its 1005; its 1012 needs its 1002
unfoldable pub signature_pairs : Look → Verdict
signature_pairs signature = both (needs_check signature 1011 1005) (needs_check signature 1012 1002)

-- 1023 to 1026 need 1085 to 1088 respectively
unfoldable pub script_pairs : Look → Verdict
script_pairs header =
    both (needs_check header 1023 1085)
    (both (needs_check header 1024 1086)
    (both (needs_check header 1025 1087)
    (needs_check header 1026 1088)))

-- three tags, in order, are present and have a count
unfoldable pub whole_check : Look → ℕ → ℕ → ℕ → ℕ → Verdict
whole_check header n a b c =
    check (has header a) 17 a
    (check (has header b) 17 b
    (check (has header c) 17 c
    (check (eqb (count_in header a) n) 17 a
    (check (eqb (count_in header b) n) 17 b
    (check (eqb (count_in header c) n) 17 c
    pass)))))

-- a group of three tags, in order, led by one of them: all or none present, counts equal to the leader's
unfoldable pub led_check : Look → ℕ → ℕ → ℕ → ℕ → Verdict
led_check header leader a b c =
    cond (has header a || has header b || has header c) (whole_check header (count_in header leader) a b c) pass

-- the same for a list of tags
abbrev pub led_by : Look → LedGroup → Verdict
led_by header group =
    cond (list_any (has header) group.tags)
    (both (present_check header group.tags) (counted_check header (count_in header group.leader) group.tags))
    pass

-- the groups led by 1049 (1048, 1050), 1047 (1112, 1113), 1054 (1053, 1055), 1090 (1114, 1115) and 1081 (1080, 1082)
unfoldable pub led_groups : Look → Verdict
led_groups header =
    both (led_check header 1049 1048 1049 1050)
    (both (led_check header 1047 1047 1112 1113)
    (both (led_check header 1054 1053 1054 1055)
    (both (led_check header 1090 1090 1114 1115)
    (led_check header 1081 1080 1081 1082))))

-- 17
unfoldable pub groups_check : List ℕ → Section → Look → Look → Verdict
groups_check s header inSignature inHeader =
    both (signature_pairs inSignature)
    (both (script_pairs inHeader)
    (both (files_check inHeader)
    (both (names_check inHeader (count_in inHeader 1028))
    (both (led_groups inHeader)
    (locales_check s header (count_in inHeader 100))))))
