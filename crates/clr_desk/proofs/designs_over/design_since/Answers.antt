use Rattle.std.proofs.Common.{rules}
use Rattle.clr_office_texts.specs.Drafts.{opened_in}
use Rattle.clr_desk_layers.specs.Since.{IsDesignSincePrint}
use Rattle.clr_desk_prints.specs.Printing.{IsMadePrintout, IsPrintoutIn}
use Rattle.clr_desk.specs.Geographic.{design_options, may_remove_over}
use Rattle.clr_desk.proofs.CutMarkLemmas.{marked_made}
use Rattle.clr_desk.proofs.designs_over.design_since.Goals as goal

pub returns : goal.returns
returns c =
    let office = c.args.office.now in
    let design = c.args.design.now in
    let may_remove = may_remove_over (may_remove_over design.may_remove office) c.args.copied.now in
    let P = IsPrintoutIn (IsDesignSincePrint c.args.copied.now design.name (design_options design) may_remove c.args.layers.now) (opened_in office) in
    let made : IsMadePrintout P c.answer_design_since-answer.result = search rules in
    marked_made P office c.answer_design_since-answer.result c.marked.result c.marked.ensures made
