use Rattle.std.proofs.Common.{◌∙◌, List, subst, sym}
use Rattle.std.proofs.lemmas.Result.{IfOk-weaker}
use Rattle.clr_rows.specs.declared.tables.TableDef.{TableDef}
use Rattle.clr_desk_layers.specs.Since.{IsFirstOther}
use Rattle.clr_desk_prints.specs.Printing.{printed}
use Rattle.clr_desk_edits.specs.Edits.{IsEditsPrint, of_other_schema}
use Rattle.clr_desk_edits.proofs.edits.edits_print.Goals as goal

pub returns-in-Some : goal.returns-in-Some
returns-in-Some c =
    let old = c.args.old.now in
    let new = c.args.new.now in
    let table = c.in-Some.table.now in
    let one = c.tables.ensures.value ∙ c.schema.ensures.value in
    let two = c.tables-2.ensures.value ∙ c.schema-2.ensures.value in
    let of_texts = subst (λ (ts : List TableDef). IsFirstOther c.tables.result.now ts table) two c.in-Some.ensures.other in
    let other = subst (λ (ts : List TableDef). IsFirstOther ts old.schema table) one of_texts in
    IfOk-weaker c.other_schema.result _ (λ p. IsEditsPrint c.args.form.now old new (printed p)) (λ p is. of_other_schema table other is) c.other_schema.ensures

pub print_of_edits-requires : goal.print_of_edits-requires
print_of_edits-requires c =
    let one = c.tables.ensures.value ∙ c.schema.ensures.value in
    let two = c.tables-2.ensures.value ∙ c.schema-2.ensures.value in
    sym two ∙ sym c.in-None.ensures.same ∙ one
