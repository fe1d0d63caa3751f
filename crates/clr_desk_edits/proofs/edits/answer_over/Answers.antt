use Rattle.clr_office_texts.specs.Drafts.{opened_in}
use Rattle.clr_desk_prints.proofs.PrintLemmas.{office_fault}
use Rattle.clr_desk_prints.specs.Printing.{of_office}
use Rattle.clr_desk_edits.specs.Edits.{IsEditsPrint}
use Rattle.clr_desk_edits.proofs.edits.answer_over.Goals as goal

pub returns-in_ok-edits_print-in-Ok : goal.returns-in_ok-edits_print-in-Ok
returns-in_ok-edits_print-in-Ok c = of_office c.in-Ok.office c.in-Ok.ensures.meant c.in_ok-edits_print-in-Ok.ensures

pub returns-in-Err : goal.returns-in-Err
returns-in-Err c =
    office_fault (IsEditsPrint c.args.form.now c.args.old.now) (opened_in c.args.new.now) c.in-Err.answer c.notes_of.result c.in-Err.ensures.answer
    c.notes_of.ensures
