use Rattle.std.proofs.Common.{◌∙◌, ◌++◌, ◌∷◌, [], List, ap, ap₂, codes, map}
use Rattle.clr_rows.specs.declared.tables.TableDef.{TableDef}
use Rattle.clr_rules.specs.declared.rules.Rule.{Rule}
use Rattle.clr_html.specs.declared.blocks.Block.{Block}
use Rattle.clr_page_parts.specs.OldErrors.{error_heads, rows_of_errors}
use Rattle.clr_page_parts.specs.Shown.{Heading, shown}
use Rattle.clr_page_parts.proofs.SectionLemmas.{table_behind}
use Rattle.clr_page_parts.proofs.old_errors.errors_section.Goals as goal

pub returns : goal.returns
returns c =
    let o = c.args.setting.office.now in
    let needs = c.args.needs.now in
    let heading = Heading (codes "Old errors") in
    let begun = c.in_ok-add_heading.ensures ∙ ap (λ (blocks : List Block). map shown blocks ++ heading ∷ []) c.new-section.ensures in
    let told = c.in_ok-table.ensures.rows
    ∙ ap₂ (λ (tables : List TableDef) (book : List Rule). rows_of_errors tables book needs) c.schema-schema.ensures.value c.book-book.ensures.value in
    c.into_section.ensures
    ∙ table_behind [] _ _ heading c.in_ok-table.table error_heads (rows_of_errors o.schema o.book needs) begun c.in_ok-table.ensures.heads told
    c.in_ok-add_table.ensures
