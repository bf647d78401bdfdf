-- The file lists as a run of checks, one for each tag (lists_run), and the new form of the names as two runs (new_names_as).
use Rattle.std.proofs.Common.{ℕ, ◌≡◌, refl, [], ◌∷◌, get_or}
use Rattle.format.specs.Verdicts.{both, run_from}
use Rattle.tags.specs.Tags.{Look, has}
use Rattle.files.specs.Files.{count_check, counts_check, file_tags, all_are, present_check, counted_check, new_names_check}
use Rattle.files.proofs.LadderLaws.{three}

module _ (look : Look) (n : ℕ) where
  pub lists_run : counts_check look n file_tags ≡ run_from (λ (i : ℕ). count_check look n (get_or file_tags i 0)) 12 0
  unfolding counts_check run_from
  lists_run = refl

  pub new_names_as : new_names_check look n
      ≡ both (present_check look (1116 ∷ 1117 ∷ 1118 ∷ [])) (counted_check look n (1116 ∷ 1117 ∷ []))
  unfolding new_names_check all_are
  new_names_as = three (has look) 1116 1117 1118 _
