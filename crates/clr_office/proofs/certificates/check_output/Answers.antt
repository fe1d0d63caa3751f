use Rattle.std.proofs.Common.{◌≡◌}
use Rattle.clr_check.specs.Cases.{case_of}
use Rattle.clr_lines.specs.Verdicts.{verdict_text_in_turn}
use Rattle.clr_office.specs.Clearances.{IsVerdictOutcome}
use Rattle.clr_office.proofs.CaseTexts.{case_made, checked, fault_made}
use Rattle.clr_office.proofs.certificates.check_output.Goals as goal

pub returns-in_ok-output-in-Ok : goal.returns-in_ok-output-in-Ok
returns-in_ok-output-in-Ok c =
    let given = case_of c.args.office.now c.args.certificate.now in
    let check = c.in-Ok.check in
    let output = c.in_ok-output-in-Ok.output in
    let made = c.in_ok-output-in-Ok.ensures in
    let lines : output.lines.items
    ≡ verdict_text_in_turn check.office.schema check.certificate.members check.certificate.before check.certificate.root check.verdict =
    rw (← c.schema.ensures.value) made.lines in
    case_made IsVerdictOutcome given check.office check.office check.certificate output c.in-Ok.ensures.case
    (checked check.office check.certificate check.verdict output lines made.refused made.lost c.in-Ok.ensures.verdict)

pub returns-in-Err : goal.returns-in-Err
returns-in-Err c =
    fault_made IsVerdictOutcome (case_of c.args.office.now c.args.certificate.now) c.in-Err.fault c.in-Err.ensures.fault c.fault_output.result
    c.fault_output.ensures
