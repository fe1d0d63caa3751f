use Rattle.std.proofs.Common.{◌∷◌, OnOk, subst, sym}
use Rattle.clr_steps.specs.Offices.{Office}
use Rattle.clr_cert.specs.declared.certificates.Certificate.{Certificate}
use Rattle.clr_check.specs.Cases.{case_of}
use Rattle.clr_office.specs.Clearances.{IsMergeOutcome}
use Rattle.clr_office_reports.specs.Outcomes.{Outcome}
use Rattle.clr_office.specs.NameHints.{AreHintsOfCase, AreNameHints}
use Rattle.clr_office.proofs.CaseTexts.{case_made, fault_made, no_case_hints}
use Rattle.clr_office.proofs.answers.answer_merge.Goals as goal

pub returns-in_ok-output-in-Ok-clause-output : goal.returns-in_ok-output-in-Ok-clause-output
returns-in_ok-output-in-Ok-clause-output c =
    case_made (λ (o : Office) (cert : Certificate) (all : Outcome). IsMergeOutcome o cert c.args.names.now all)
    (case_of c.args.office.now c.args.certificate.now)
    c.in-Ok.office c.merge_members.new.office c.in-Ok.certificate c.in_ok-output-in-Ok.output c.in-Ok.ensures.case c.in_ok-output-in-Ok.ensures

pub returns-in-Err-clause-output : goal.returns-in-Err-clause-output
returns-in-Err-clause-output c =
    fault_made (λ (o : Office) (cert : Certificate) (all : Outcome). IsMergeOutcome o cert c.args.names.now all)
    (case_of c.args.office.now c.args.certificate.now)
    c.in-Err.fault c.in-Err.ensures.fault c.fault_output.result c.fault_output.ensures

pub returns-in_ok-output-in-Ok-clause-hints : goal.returns-in_ok-output-in-Ok-clause-hints
returns-in_ok-output-in-Ok-clause-hints c =
    let o = c.in-Ok.office in
    let names = c.args.names.now in
    let lines = c.in_ok-hints-in-Ok.field-0.items in
    let hints = subst (λ root. AreNameHints o (root ∷ names) lines) c.as_str.ensures c.in_ok-hints-in-Ok.ensures in
    subst (λ g. AreHintsOfCase names g lines) (sym c.in-Ok.ensures.case) hints

pub returns-in-Err-clause-hints : goal.returns-in-Err-clause-hints
returns-in-Err-clause-hints c =
    let names = c.args.names.now in
    let given = case_of c.args.office.now c.args.certificate.now in
    let answer = c.fault_output.result in
    subst (λ lines. OnOk answer (AreHintsOfCase names given lines)) (sym c.requires)
    (no_case_hints names given c.in-Err.fault c.in-Err.ensures.fault answer c.fault_output.ensures)
