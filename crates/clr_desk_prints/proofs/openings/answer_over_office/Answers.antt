use Rattle.clr_office.specs.Drafts.{opened_in}
use Rattle.clr_desk_prints.specs.Printing.{of_office}
use Rattle.clr_desk_prints.proofs.PrintLemmas.{office_fault}
use Rattle.clr_desk_prints.proofs.openings.answer_over_office.Goals as goal

pub returns-in_ok-hinted_print-in-Ok : goal.returns-in_ok-hinted_print-in-Ok
returns-in_ok-hinted_print-in-Ok g c = of_office c.in-Ok.office c.in-Ok.ensures.meant c.in_ok-hinted_print-in-Ok.ensures

pub returns-in-Err : goal.returns-in-Err
returns-in-Err g c = office_fault _ (opened_in c.args.office.now) c.in-Err.answer c.notes_of.result c.in-Err.ensures.answer c.notes_of.ensures
