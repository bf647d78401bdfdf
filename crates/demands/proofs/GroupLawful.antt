-- Check 17 passes exactly on lawful groups: needs_lawful, counts_lawful, names_lawful, locales_lawful, groups_lawful. Where
-- they are lawful, 1118 is present where 1116 is: directories_there.
use Prim.Native.Nat.{ℕ, ◌≤◌, ◌<◌}
use mathlib.Core.Path.{◌≡◌, refl}
use mathlib.Core.Logic.Iff
use mathlib.Core.Logic.{◌↔◌}
use mathlib.Core.List.{List, [], ◌∷◌}
use mathlib.Core.Bool.{Bool, true, false, and-eq-true_iff}
use native.Mathlib.Omega.{arith}
use Rattle.format.specs.declared.section.Section.{Section}
use Rattle.format.specs.declared.records.IndexRecord.{IndexRecord}
use Rattle.entries.specs.Entries.{record_at}
use Rattle.index.specs.Lookup.{tagged_in}
use Rattle.tags.specs.Tags.{has, count_in}
use Rattle.files.specs.Files.{count_check, counts_check}
use Rattle.groups.specs.Groups.{needs_check, signature_pairs, script_pairs}
use Rattle.files.specs.Files.{old_names_right, new_names_check, names_check}
use Rattle.locales.specs.Locales.{locales_check}
use Rattle.locales.proofs.OrderLaws.{locales_pass}
use Rattle.groups.specs.Groups.{led_groups, groups_check}
use Rattle.demands.specs.Lawful.{HasTag, WhereTagged, SameCount, Needs, Each, OldNames, NewNames, LawfulLocales, LawfulGroups}
use Rattle.demands.proofs.PassIff.{check_iff, last_iff, both_iff, eqb_iff, choice_iff, unless_iff, not_iff}
use Rattle.demands.proofs.TagLawful.{has_tag_lem, lacks_tag}
use Rattle.demands.proofs.FoundLawful.{Apart, count_rule, counted_iff, same_count_iff}
use Rattle.demands.proofs.LedLawful.{same_lawful, first_led, second_led}
use Rattle.format.specs.Verdicts.{pass}

needs_lawful : (s : List ℕ) (section : Section) (tag other : ℕ)
    → (needs_check (tagged_in s section) tag other ≡ pass) ↔ Needs s section tag other
unfolding needs_check
needs_lawful s section tag other = simp (last_iff, unless_iff, has_tag_lem) Iff.rfl

-- counts that equal that of a tag that is present
module _ (s : List ℕ) (header : Section) (apart : Apart s header) (leader : ℕ) (led : HasTag s header leader) where
  count_lawful : (tag : ℕ) → (count_check (tagged_in s header) (count_in (tagged_in s header) leader) tag ≡ pass) ↔ SameCount s header tag leader
  unfolding count_check
  count_lawful tag =
      simp (last_iff, unless_iff, eqb_iff, counted_iff s header apart, same_count_iff s header apart leader) Iff.rfl

  counts_lawful : (tags : List ℕ)
      → (counts_check (tagged_in s header) (count_in (tagged_in s header) leader) tags ≡ pass)
      ↔ Each tags (λ (tag : ℕ). SameCount s header tag leader)
  unfolding counts_check
  counts_lawful [] = (λ h. tt, λ h. refl)
  counts_lawful (tag ∷ rest) = simp (both_iff, count_lawful, counts_lawful rest) Iff.rfl

-- the names of the files, with the count of 1028
module _ (s : List ℕ) (header : Section) (apart : Apart s header) (led : HasTag s header 1028) where
  old_lawful : HasTag s header 1027 → (old_names_right (tagged_in s header) (count_in (tagged_in s header) 1028) ≡ true) ↔ OldNames s header
  unfolding old_names_right
  old_lawful h =
      simp (and-eq-true_iff, not_iff, has_tag_lem, same_lawful s header apart 1028 led 1027)
      (λ k. (k.0.0.0, k.0.0.1, k.0.1, k.1), λ k. (((k.0, k.1), k.2), k.3))

  new_lawful : (new_names_check (tagged_in s header) (count_in (tagged_in s header) 1028) ≡ pass) ↔ NewNames s header
  unfolding new_names_check
  new_lawful =
      let names = same_lawful s header apart 1028 led 1116 in
      let bases = same_lawful s header apart 1028 led 1117 in
      simp (check_iff, has_tag_lem) (
        λ h. (h.0, h.1.0, h.1.1.0, (names h.0).0 h.1.1.1.0, (bases h.1.0).0 h.1.1.1.1.0),
        λ h. (h.0, (h.1, (h.2, ((names h.0).1 h.3, ((bases h.1).1 h.4, refl))))),
      )

  names_lawful : (names_check (tagged_in s header) (count_in (tagged_in s header) 1028) ≡ pass)
      ↔ ((HasTag s header 1027 → OldNames s header) × ((HasTag s header 1027 → ⊥) → NewNames s header))
  unfolding names_check
  names_lawful =
      simp (choice_iff, last_iff, has_tag_lem, lacks_tag, new_lawful)
      (λ h. (λ k. (old_lawful k).0 (h.0 k), h.1), λ h. (λ k. (old_lawful k).1 (h.0 k), h.1))

-- translated strings, with the count of 100
module _ (s : List ℕ) (header : Section) (apart : Apart s header) (listed : HasTag s header 100) where
  abbrev most : ℕ
  most = count_in (tagged_in s header) 100

  at_most : (n : ℕ) → (n ≤ most) ↔ WhereTagged s header 100 (λ (e : IndexRecord). n ≤ e.count)
  at_most n = count_rule s header apart 100 (λ (count : ℕ). n ≤ count) listed

  locales_lawful : (locales_check s header most ≡ pass) ↔ LawfulLocales s header
  locales_lawful =
      let pass = locales_pass s header most in (
        λ h i l t.
            let few : most < (record_at s header i).count → ⊥ = λ many. pass.0 h i l (t, many) in
            (at_most (record_at s header i).count).0 (omega arith),
        λ h. pass.1 (λ i l (t, many). let few = (at_most (record_at s header i).count).1 (h i l t) in omega arith),
      )

pub groups_lawful : (s : List ℕ) (signature header : Section) → Apart s header → HasTag s header 1028 → HasTag s header 100
    → (groups_check s header (tagged_in s signature) (tagged_in s header) ≡ pass) ↔ LawfulGroups s signature header
unfolding groups_check signature_pairs script_pairs led_groups
groups_lawful s signature header apart led listed =
    simp (
      both_iff,
      needs_lawful,
      counts_lawful s header apart 1028 led,
      names_lawful s header apart led,
      first_led s header apart,
      second_led s header apart,
      locales_lawful s header apart listed,
    ) (
      λ h. let scripts = h.1.0 in
          let names = h.1.1.1.0 in
          let groups = h.1.1.1.1.0 in
          record {
            dsa = h.0.0;
            rsa = h.0.1;
            pre_install = scripts.0;
            post_install = scripts.1.0;
            pre_remove = scripts.1.1.0;
            post_remove = scripts.1.1.1;
            files = h.1.1.0;
            old_names = names.0;
            new_names = names.1;
            requires = groups.0;
            provides = groups.1.0;
            conflicts = groups.1.1.0;
            obsoletes = groups.1.1.1.0;
            changes = groups.1.1.1.1;
            locales = h.1.1.1.1.1;
          },
      λ r. (
        (r.dsa, r.rsa),
        (
          (r.pre_install, (r.post_install, (r.pre_remove, r.post_remove))),
          (
            r.files,
            (
              (r.old_names, r.new_names),
              ((r.requires, (r.provides, (r.conflicts, (r.obsoletes, r.changes)))), r.locales),
            ),
          ),
        ),
      ),
    )

pub directories_there : (s : List ℕ) (signature header : Section) → LawfulGroups s signature header
    → HasTag s header 1116 → HasTag s header 1118
directories_there s signature header groups h = go (has (tagged_in s header) 1027) refl
  where
    go : (b : Bool) → has (tagged_in s header) 1027 ≡ b → HasTag s header 1118
    go true q = absurd ((groups.old_names ((has_tag_lem s header 1027).0 q)).1 h)
    go false q = (groups.new_names ((lacks_tag s header 1027).0 q)).2
