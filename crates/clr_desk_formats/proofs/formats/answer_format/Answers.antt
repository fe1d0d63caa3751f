use Rattle.clr_office_texts.specs.Drafts.{opened_in}
use Rattle.clr_desk_formats.specs.Formats.{IsFormatPrint}
use Rattle.clr_desk_prints.specs.Printing.{of_office}
use Rattle.clr_desk_prints.proofs.PrintLemmas.{office_fault}
use Rattle.clr_desk_formats.proofs.formats.answer_format.Goals as goal

pub returns-in_ok-format_print-in-Ok : goal.returns-in_ok-format_print-in-Ok
returns-in_ok-format_print-in-Ok c = of_office c.in-Ok.office c.in-Ok.ensures.meant c.in_ok-format_print-in-Ok.ensures

pub returns-in-Err : goal.returns-in-Err
returns-in-Err c = office_fault IsFormatPrint (opened_in c.args.office.now) c.in-Err.answer c.notes_of.result c.in-Err.ensures.answer c.notes_of.ensures
