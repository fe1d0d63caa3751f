use Rattle.std.proofs.Common.{◌∙◌, ◌++◌, ℕ, List, ap, false, map, true}
use Rattle.std.specs.List.{flat_map}
use Rattle.clr_html.specs.declared.tables.TableRow.{TableRow}
use Rattle.clr_html.specs.Words.{words_of_row}
use Rattle.clr_plan_page.specs.Causes.{trial_rows}
use Rattle.clr_plan_page.proofs.remedies.trials_table.Goals as goal

pub returns-clause-rows : goal.returns-clause-rows
returns-clause-rows c =
    let cleared = flat_map (trial_rows true) c.args.trials.now in
    let others = flat_map (trial_rows false) c.args.trials.now in
    let first = c.in_ok-add_trials.ensures ∙ ap (λ (rows : List TableRow). map words_of_row rows ++ cleared) c.in_ok-table.ensures.rows in
    c.in_ok-add_trials-2.ensures ∙ ap (λ (cells : List (List (List ℕ))). cells ++ others) first
