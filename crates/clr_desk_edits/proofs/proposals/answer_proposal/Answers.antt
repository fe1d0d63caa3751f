use Rattle.std.proofs.Common.{◌≡◌, ◌∙◌, Some, None, ap, sym}
use Rattle.std.specs.Option.{option_copied}
use Rattle.clr_office_texts.specs.Drafts.{draft_in}
use Rattle.clr_desk_prints.specs.Systems.{in_system, no_system_print, of_no_system, system_name, without_system}
use Rattle.clr_desk_prints.proofs.Made.{made_as}
use Rattle.clr_desk_errors.specs.Accepting.{IsPrintoutOfDraft}
use Rattle.clr_desk_edits.specs.Edits.{target_of}
use Rattle.clr_desk_edits.specs.Proposals.{IsProposalAnswer, IsProposalPrint}
use Rattle.clr_desk_edits.proofs.proposals.answer_proposal.Goals as goal

pub returns-in_default : goal.returns-in_default
returns-in_default c =
    let none : option_copied c.args.system ≡ None = ap option_copied c.in_default.is in
    let office = c.args.office.now in
    made_as (IsPrintoutOfDraft (IsProposalPrint (target_of c.args.dialect c.args.origin None) office) (draft_in office))
    (IsProposalAnswer c.args.dialect c.args.origin (option_copied c.args.system) office)
    (λ print is. without_system none is) c.answer_for.result (rw c.database.ensures at c.answer_for.ensures)

pub returns-in-Some-system_of : goal.returns-in-Some-system_of
returns-in-Some-system_of c =
    let code = c.in-Some-system_of.code in
    let named : option_copied c.args.system ≡ Some (system_name code) =
    ap option_copied c.in-Some.is ∙ ap Some (sym c.as_str.ensures ∙ c.in-Some-system_of.ensures.named) in
    let office = c.args.office.now in
    made_as (IsPrintoutOfDraft (IsProposalPrint (target_of c.args.dialect c.args.origin (Some code)) office) (draft_in office))
    (IsProposalAnswer c.args.dialect c.args.origin (option_copied c.args.system) office)
    (λ print is. in_system code named is) c.answer_for-in-Some-system_of.result
    (rw c.database-in-Some-system_of.ensures at c.answer_for-in-Some-system_of.ensures)

pub returns-in_ok-print_of_no_system-in-None : goal.returns-in_ok-print_of_no_system-in-None
returns-in_ok-print_of_no_system-in-None c =
    let given : option_copied c.args.system ≡ Some c.as_str.result.now = ap option_copied c.in-Some.is ∙ ap Some (sym c.as_str.ensures) in
    of_no_system c.as_str.result.now given (c.system_of.ensures.no_other c.in-None.is)
    (c.in_ok-print_of_no_system-in-None.ensures ∙ ap no_system_print (c.as_str-in-None.ensures ∙ sym c.as_str.ensures))
