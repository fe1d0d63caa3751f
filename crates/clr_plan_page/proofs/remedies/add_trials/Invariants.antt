use Rattle.std.proofs.Common.{◌≡◌, ◌++◌, map, take}
use Rattle.std.specs.List.{flat_map}
use Rattle.clr_html.specs.Words.{words_of_row}
use Rattle.clr_plan_page.specs.Causes.{trial_rows}
use Rattle.clr_plan_page.proofs.remedies.add_trials.Given as goal

-- the rows of the trials so far are added
abbrev pub invariant-loop-trial : goal.invariant-loop-trial
invariant-loop-trial l = map words_of_row l.rows.items
    ≡ map words_of_row l.initial.rows.items ++ flat_map (trial_rows l.is_cleared) (take l.trial-index l.trials)
