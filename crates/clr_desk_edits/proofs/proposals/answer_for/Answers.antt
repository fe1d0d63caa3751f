use Rattle.std.proofs.lemmas.Result.{err_from_is_err_and}
use Rattle.clr_office_texts.specs.Drafts.{draft_in}
use Rattle.clr_desk_errors.specs.Accepting.{of_draft}
use Rattle.clr_desk_errors.proofs.Accepted.{fault_of_draft}
use Rattle.clr_desk_edits.specs.Proposals.{IsProposalPrint}
use Rattle.clr_desk_edits.proofs.proposals.answer_for.Goals as goal

pub returns-in_err-_read : goal.returns-in_err-_read
returns-in_err-_read c =
    let e = err_from_is_err_and c.from_residual.result c.from_residual.ensures.1 in
    rw (e.1, e.2) (fault_of_draft (IsProposalPrint c.args.target.now c.args.office.now) (draft_in c.args.office.now) c.in_err-_read.field-0.0
    c.in_err-_read.ensures.fault)

pub returns : goal.returns
returns c = of_draft c.in_ok-_read._read.draft c.in_ok-_read.ensures.draft (c.in_ok-print.ensures c.in_ok-_read._read.draft)
