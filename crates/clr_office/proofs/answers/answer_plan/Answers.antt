use Rattle.std.proofs.Common.{◌∷◌, Ok, OnOk, refl, subst, sym}
use Rattle.clr_merge_sets.specs.MergeSetNames.{merge_set}
use Rattle.clr_office_texts.specs.Drafts.{opened_in}
use Rattle.clr_office.specs.Answers.{IsPlanPrint}
use Rattle.clr_office.specs.NameHints.{AreHintsIn}
use Rattle.clr_office_reports.specs.Outcomes.{outcome_of}
use Rattle.clr_office.proofs.Prints.{held_made, hints_opened, no_hints_made}
use Rattle.clr_office.proofs.answers.answer_plan.Goals as goal

pub returns-in_ok-hints-in-Ok-clause-output : goal.returns-in_ok-hints-in-Ok-clause-output
returns-in_ok-hints-in-Ok-clause-output c =
    let o = c.in-Ok.office in
    let output = c.in_ok-output-in-Ok.output in
    held_made (IsPlanPrint c.args.orders (merge_set c.args.root.now c.args.names.now)) (opened_in c.args.office.now) o c.in-Ok.ensures.meant (Ok output)
    (outcome_of output o, c.in_ok-output-in-Ok.ensures, refl)

pub returns-in_ok-hints-in-Ok-clause-hints : goal.returns-in_ok-hints-in-Ok-clause-hints
returns-in_ok-hints-in-Ok-clause-hints c =
    hints_opened (c.args.root.now ∷ c.args.names.now) (opened_in c.args.office.now) c.in-Ok.office c.in-Ok.ensures.meant
    c.in_ok-hints-in-Ok.field-0.items c.in_ok-hints-in-Ok.ensures

pub returns-in-Err-clause-hints : goal.returns-in-Err-clause-hints
returns-in-Err-clause-hints c =
    let names = c.args.root.now ∷ c.args.names.now in
    let meant = opened_in c.args.office.now in
    let answer = c.in-Err.answer in
    subst (λ lines. OnOk answer (AreHintsIn names meant lines)) (sym c.requires) (no_hints_made names meant answer c.in-Err.ensures.answer)
