use Rattle.std.proofs.Common.{◌∙◌, ◌++◌, List, ap, map}
use Rattle.clr_html.specs.declared.tables.TableRow.{TableRow}
use Rattle.clr_html.specs.Words.{words_of_row}
use Rattle.clr_page_parts.specs.Causes.{cause_row}
use Rattle.clr_page_parts.proofs.cause_tables.rows_table.Goals as goal

pub returns-clause-rows : goal.returns-clause-rows
returns-clause-rows c =
    c.in_ok-add_rows.ensures ∙ ap (λ (rows : List TableRow). map words_of_row rows ++ map cause_row c.args.named.now) c.in_ok-table.ensures.rows
