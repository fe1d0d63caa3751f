use Rattle.std.proofs.Common.{◌∙◌, ◌++◌, List, ap, map}
use Rattle.clr_html.specs.declared.tables.TableRow.{TableRow}
use Rattle.clr_html.specs.Words.{words_of_row}
use Rattle.clr_cert.specs.declared.certificates.Entry.{Entry}
use Rattle.clr_merge_sets.specs.MemberChanges.{set_of}
use Rattle.clr_plan_page.specs.Needs.{entry_row}
use Rattle.clr_plan_page.proofs.needs.needs_table.Goals as goal

pub returns-clause-rows : goal.returns-clause-rows
returns-clause-rows c =
    let members = c.args.setting.members.now in
    let row = entry_row c.args.setting.office.now (set_of members).members members.changes.items in
    c.in_ok-add_entries.ensures ∙ ap (λ (rows : List TableRow). map words_of_row rows ++ map row c.first_entries-told.result.now) c.in_ok-table.ensures.rows
    ∙ ap (λ (entries : List Entry). map row entries) c.first_entries-told.ensures
