use Rattle.std.proofs.Common.{◌∙◌, ◌++◌, List, ap, map}
use Rattle.clr_html.specs.declared.tables.TableRow.{TableRow}
use Rattle.clr_html.specs.Words.{words_of_row}
use Rattle.clr_merge_sets.specs.MemberChanges.{set_of}
use Rattle.clr_plan_page.specs.Clashes.{clash_row}
use Rattle.clr_plan_page.proofs.clashes.sets_table.Goals as goal

pub returns-clause-rows : goal.returns-clause-rows
returns-clause-rows c =
    let told = map (clash_row c.args.setting.office.now (set_of c.args.setting.members.now)) c.args.clashes.now in
    c.in_ok-add_rows.ensures ∙ ap (λ (rows : List TableRow). map words_of_row rows ++ told) c.in_ok-table.ensures.rows
