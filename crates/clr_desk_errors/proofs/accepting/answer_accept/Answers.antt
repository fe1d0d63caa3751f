use Rattle.std.proofs.lemmas.Result.{err_from_is_err_and}
use Rattle.clr_office_texts.specs.Drafts.{draft_in}
use Rattle.clr_desk_errors.specs.Accepting.{IsAcceptPrint, of_draft}
use Rattle.clr_desk_errors.proofs.Accepted.{fault_of_draft}
use Rattle.clr_desk_errors.proofs.accepting.answer_accept.Goals as goal

pub returns-in_err-opened : goal.returns-in_err-opened
returns-in_err-opened c =
    let e = err_from_is_err_and c.from_residual.result c.from_residual.ensures.1 in
    rw (e.1, e.2) (fault_of_draft IsAcceptPrint (draft_in c.args.office.now) c.in_err-opened.field-0.0 c.in_err-opened.ensures.fault)

pub returns : goal.returns
returns c = of_draft c.in_ok-opened.opened.office c.in_ok-opened.ensures.office c.in_ok-accept_print.ensures
