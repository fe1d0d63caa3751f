use Rattle.std.proofs.Common.{◌≡◌, ◌∙◌, List, Some, ap, sym}
use Rattle.std.proofs.lemmas.Result.{IfOk-weaker}
use Rattle.clr_rows.specs.declared.tables.TableDef.{TableDef}
use Rattle.clr_desk_prints.specs.Printing.{printed}
use Rattle.clr_desk_edits.specs.Edits.{IsEditsPrint, of_unsayable, unsayable_print, why_not}
use Rattle.clr_desk_edits.proofs.edits.print_of_edits.Goals as goal

pub returns-in-Some : goal.returns-in-Some
returns-in-Some c =
    let form = c.args.form.now in
    let old = c.args.old.now in
    let new = c.args.new.now in
    let why = c.in-Some.why in
    let schema = c.schema-schema.ensures.value in
    let before = c.live-before.ensures.value in
    let after = c.live-after.ensures.value in
    let found : why_not form new.schema old.live new.live ≡ Some why =
    (λ i. why_not form (sym schema i) (sym before i) (sym after i)) ∙ sym c.why_not.ensures ∙ c.in-Some.is in
    IfOk-weaker c.unsayable.result _ (λ p. IsEditsPrint form old new (printed p))
    (λ p is. of_unsayable why c.requires found (is ∙ ap (λ (tables : List TableDef). unsayable_print tables why) schema)) c.unsayable.ensures
