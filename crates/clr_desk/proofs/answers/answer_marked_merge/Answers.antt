use Rattle.clr_check.specs.Cases.{case_of}
use Rattle.clr_desk_merges.specs.Merges.{IsHintedMerge}
use Rattle.clr_desk_prints.specs.Printing.{IsPrintoutOfCase}
use Rattle.clr_desk.proofs.CutMarkLemmas.{marked_made}
use Rattle.clr_desk.proofs.answers.answer_marked_merge.Goals as goal

pub returns : goal.returns
returns c =
    let office = c.args.office.now in
    let P = IsPrintoutOfCase (IsHintedMerge c.args.names.now) (case_of office c.args.certificate.now) in
    marked_made P office c.answer_merge-answer.result c.marked.result c.marked.ensures c.answer_merge-answer.ensures
