use Rattle.std.proofs.Common.{◌∙◌, ◌++◌, List, ap, map}
use Rattle.clr_html.specs.declared.tables.TableRow.{TableRow}
use Rattle.clr_html.specs.Words.{words_of_row}
use Rattle.clr_page_parts.specs.OldErrors.{rows_of_errors}
use Rattle.clr_page_parts.proofs.old_errors.errors_table.Goals as goal

pub returns-clause-rows : goal.returns-clause-rows
returns-clause-rows c =
    let told = rows_of_errors c.args.schema.now c.args.book.now c.args.needs.now in
    c.in_ok-add_rules.ensures ∙ ap (λ (rows : List TableRow). map words_of_row rows ++ told) c.in_ok-table.ensures.rows
