use Rattle.std.proofs.Common.{◌++◌, ◌∙◌, [], codes, false, ap, sym}
use Rattle.std.proofs.lemmas.Result.{IfOk-weaker}
use Rattle.clr_steps.specs.Offices.{Office}
use Rattle.clr_office_reading.specs.Offices.{office_read}
use Rattle.clr_cut_texts.specs.CutTexts.{cut_text}
use Rattle.clr_desk_prints.specs.Printing.{printed, printout_of}
use Rattle.clr_desk_edits.specs.Cuts.{IsCutPrint, of_faulty, of_rows}
use Rattle.clr_desk_edits.proofs.cuts.cut_print.Goals as goal

pub returns-in_ok-push-in-Ok-2 : goal.returns-in_ok-push-in-Ok-2
returns-in_ok-push-in-Ok-2 c = λ o.
    let cut = c.in_ok-cut-in-Ok-2.ensures.text ∙ ap cut_text c.in_ok-put_rows-in-Ok-2.ensures.put in
    let text = c.in_ok-push-in-Ok-2.ensures.items ∙ ap (λ bytes. bytes ++ codes "\n") cut in
    of_rows (office_read c.in-Ok.office) c.in-Ok-2.rows c.in-Ok.ensures.value (sym c.in_ok-rows.ensures.rows ∙ c.in-Ok-2.is)
    (c.of_text.ensures ∙ ap (λ bytes. printout_of bytes [] false false) text)

pub returns-in-Err : goal.returns-in-Err
returns-in-Err c =
    let office = office_read c.in-Ok.office in
    IfOk-weaker c.print_of_fault.result _ (λ p. (o : Office) → IsCutPrint c.args.text.now c.args.rounded c.args.layers.now o (printed p))
    (λ p is. λ o. of_faulty office c.in-Err.faulty c.in-Ok.ensures.value (sym c.in_ok-rows.ensures.rows ∙ c.in-Err.is) is) c.print_of_fault.ensures
