use Rattle.std.proofs.Common.{rules}
use Rattle.clr_check.specs.Cases.{case_of}
use Rattle.clr_office_texts.specs.Drafts.{draft_in}
use Rattle.clr_desk_errors.specs.Accepting.{IsAcceptPrint, IsPrintoutOfDraft}
use Rattle.clr_desk_merges.specs.Merges.{IsHintedMerge}
use Rattle.clr_desk_prints.specs.Printing.{IsMadePrintout, IsPrintoutOfCase}
use Rattle.clr_desk.specs.CutMarks.{IsMarkedAlike}
use Rattle.clr_desk.proofs.CutMarkLemmas.{marked_made}
use Rattle.clr_desk.proofs.answers.answer_texts.Goals as goal

pub returns-in-Merge : goal.returns-in-Merge
returns-in-Merge c =
    let office = c.args.office.now in
    let P = IsMarkedAlike (IsPrintoutOfCase (IsHintedMerge c.in-Merge.names) (case_of office c.args.second.now)) office in
    let made : IsMadePrintout P c.answer_marked_merge.result = search rules in
    rw c.in-Merge.is made

pub returns-in-Accept : goal.returns-in-Accept
returns-in-Accept c =
    let office = c.args.office.now in
    let P = IsPrintoutOfDraft IsAcceptPrint (draft_in office) in
    rw c.in-Accept.is (marked_made P office c.answer_accept.result c.marked.result c.marked.ensures c.answer_accept.ensures)
