use Rattle.std.proofs.lemmas.Result.{err_from_is_err_and}
use Rattle.clr_office_texts.specs.Drafts.{draft_in, opened_in}
use Rattle.clr_desk_errors.proofs.Accepted.{fault_of_draft}
use Rattle.clr_desk_prints.specs.Printing.{IsPrintoutIn}
use Rattle.clr_desk_prints.proofs.Made.{made_as}
use Rattle.clr_desk_errors.specs.Accepting.{of_draft}
use Rattle.clr_desk_edits.specs.Edits.{IsEditsAnswer, IsEditsPrint}
use Rattle.clr_desk_edits.proofs.edits.answer_in.Goals as goal

pub returns-in_err-read : goal.returns-in_err-read
returns-in_err-read c =
    let e = err_from_is_err_and c.from_residual.result c.from_residual.ensures.1 in
    rw (e.1, e.2) (fault_of_draft (λ o. IsPrintoutIn (IsEditsPrint c.args.form.now o) (opened_in c.args.new.now)) (draft_in c.args.old.now)
    c.in_err-read.field-0.0 c.in_err-read.ensures.fault)

pub returns : goal.returns
returns c =
    made_as (IsPrintoutIn (IsEditsPrint c.args.form.now c.in_ok-read.read.draft) (opened_in c.args.new.now))
    (IsEditsAnswer c.args.form.now c.args.old.now c.args.new.now) (λ print is. of_draft c.in_ok-read.read.draft c.in_ok-read.ensures.draft is)
    c.answer_over.result c.answer_over.ensures
