use Rattle.std.proofs.Common.{◌≡◌, ◌∙◌, Some, None, ap, sym}
use Rattle.std.specs.Option.{option_copied}
use Rattle.clr_office_reading.specs.Offices.{known_in}
use Rattle.clr_office_texts.specs.Drafts.{draft_in}
use Rattle.clr_desk_prints.specs.Systems.{in_system, no_system_print, of_no_system, system_name, without_system}
use Rattle.clr_desk_prints.proofs.Made.{made_as}
use Rattle.clr_desk_errors.specs.Accepting.{IsPrintoutOfDraft}
use Rattle.clr_desk_error_lists.specs.ErrorFeatures.{AreErrorFeatures, IsErrorFeaturesAnswer}
use Rattle.clr_desk_error_lists.proofs.error_features.answer_error_features.Goals as goal

pub returns-in_default : goal.returns-in_default
returns-in_default c =
    let none : option_copied c.args.system ≡ None = ap option_copied c.in_default.is in
    let known = known_in c.args.office.now in
    let given = draft_in c.args.office.now in
    made_as (IsPrintoutOfDraft (AreErrorFeatures None known) given) (IsErrorFeaturesAnswer known (option_copied c.args.system) given)
    (λ print is. without_system none is) c.answer_in.result c.answer_in.ensures

pub returns-in-Some-system_of : goal.returns-in-Some-system_of
returns-in-Some-system_of c =
    let code = c.in-Some-system_of.code in
    let named : option_copied c.args.system ≡ Some (system_name code) =
    ap option_copied c.in-Some.is ∙ ap Some (sym c.as_str.ensures ∙ c.in-Some-system_of.ensures.named) in
    let known = known_in c.args.office.now in
    let given = draft_in c.args.office.now in
    made_as (IsPrintoutOfDraft (AreErrorFeatures (Some code) known) given) (IsErrorFeaturesAnswer known (option_copied c.args.system) given)
    (λ print is. in_system code named is) c.answer_in-in-Some-system_of.result c.answer_in-in-Some-system_of.ensures

pub returns-in_ok-print_of_no_system-in-None : goal.returns-in_ok-print_of_no_system-in-None
returns-in_ok-print_of_no_system-in-None c =
    let given : option_copied c.args.system ≡ Some c.as_str.result.now = ap option_copied c.in-Some.is ∙ ap Some (sym c.as_str.ensures) in
    of_no_system c.as_str.result.now given (c.system_of.ensures.no_other c.in-None.is)
    (c.in_ok-print_of_no_system-in-None.ensures ∙ ap no_system_print (c.as_str-in-None.ensures ∙ sym c.as_str.ensures))
