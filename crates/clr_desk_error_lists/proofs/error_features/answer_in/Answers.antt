use Rattle.std.proofs.Common.{◌∙◌, List, subst}
use Rattle.std.proofs.lemmas.Result.{err_from_is_err_and}
use Rattle.clr_rules.specs.declared.needs.Broken.{Broken}
use Rattle.clr_office_reading.specs.Offices.{known_in}
use Rattle.clr_office_texts.specs.Drafts.{draft_in}
use Rattle.clr_desk_prints.specs.Printing.{printed}
use Rattle.clr_desk_errors.specs.Accepting.{of_draft}
use Rattle.clr_desk_error_lists.specs.ErrorFeatures.{AreErrorFeatures}
use Rattle.clr_desk_errors.proofs.Accepted.{fault_of_draft}
use Rattle.clr_desk_error_lists.proofs.error_features.answer_in.Goals as goal

pub returns-in_err-opened : goal.returns-in_err-opened
returns-in_err-opened c =
    let e = err_from_is_err_and c.from_residual.result c.from_residual.ensures.1 in
    let text = c.args.office.now in
    rw (e.1, e.2) (fault_of_draft (AreErrorFeatures c.args.system (known_in text)) (draft_in text) c.in_err-opened.field-0.0 c.in_err-opened.ensures.fault)

pub returns : goal.returns
returns c =
    let o = c.in_ok-opened.opened.office in
    let named = c.as_slice.ensures ∙ c.in_ok-opened.ensures.known in
    of_draft o c.in_ok-opened.ensures.office
    (subst (λ (known : List Broken). AreErrorFeatures c.args.system known o (printed c.in_ok-features_print.field-0)) named c.in_ok-features_print.ensures)
