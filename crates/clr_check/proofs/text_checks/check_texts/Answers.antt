use Rattle.clr_check.specs.Cases.{case_of}
use Rattle.clr_check.specs.TextChecks.{IsChecked}
use Rattle.std.proofs.Common.{sym, subst}
use Rattle.clr_check.proofs.Said.{judged, said}
use Rattle.clr_check.proofs.text_checks.check_texts.Goals as goal

pub returns-in-Ok : goal.returns-in-Ok
returns-in-Ok c =
    let given = case_of c.args.office.now c.args.certificate.now in
    let check = c.in-Ok.check in
    judged given check.office check.certificate check.verdict c.in-Ok.ensures.case c.in-Ok.ensures.verdict

pub returns-in-Err : goal.returns-in-Err
returns-in-Err c =
    let given = case_of c.args.office.now c.args.certificate.now in
    subst (IsChecked given) (sym c.said_of.ensures) (said given c.in-Err.fault c.in-Err.ensures.fault)
