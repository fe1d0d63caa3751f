use Rattle.std.proofs.Common.{rules}
use Rattle.clr_office_texts.specs.Drafts.{opened_in}
use Rattle.clr_desk_designs.specs.InTurn.{IsDesignsPrint}
use Rattle.clr_desk_prints.specs.Printing.{IsMadePrintout, IsPrintoutIn}
use Rattle.clr_desk.specs.Geographic.{folder_options, may_remove_over}
use Rattle.clr_desk.proofs.CutMarkLemmas.{marked_made}
use Rattle.clr_desk.proofs.designs_over.designs_of.Goals as goal

pub returns : goal.returns
returns c =
    let office = c.args.office.now in
    let asked = c.args.asked.now in
    let may_remove = may_remove_over asked.may_remove office in
    let P = IsPrintoutIn (IsDesignsPrint (folder_options asked) may_remove c.args.designs.now) (opened_in office) in
    let made : IsMadePrintout P c.answer_designs-answer.result = search rules in
    marked_made P office c.answer_designs-answer.result c.marked.result c.marked.ensures made
