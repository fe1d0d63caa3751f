use Rattle.std.proofs.Common.{refl}
use Rattle.clr_clearance.specs.declared.verdicts.Verdict.TheVariants as verdict
use Rattle.clr_merge_sets.specs.Certificates.{entries_in, ordered_merge_set_of}
use Rattle.clr_check.proofs.AnswerLemmas.{clear_refused, clear_run, clear_verdict}
use Rattle.clr_check.proofs.runs.perform_cleared.Goals as goal

pub returns-in_default-with_capacity-clause-refused : goal.returns-in_default-with_capacity-clause-refused
returns-in_default-with_capacity-clause-refused c =
    let certificate = c.args.certificate.now in
    clear_refused c.args.office.now (ordered_merge_set_of certificate) (entries_in certificate.entries) c.in-Clear.ensures.answer

pub returns-in_default-with_capacity-2-clause-refused : goal.returns-in_default-with_capacity-2-clause-refused
returns-in_default-with_capacity-2-clause-refused c =
    let certificate = c.args.certificate.now in
    clear_refused c.args.office.now (ordered_merge_set_of certificate) (entries_in certificate.entries) c.in-Clear.ensures.answer

pub returns-clause-clear : goal.returns-clause-clear
returns-clause-clear c =
    let certificate = c.args.certificate.now in
    clear_verdict c.args.office.now (ordered_merge_set_of certificate) (entries_in certificate.entries) verdict.Clear c.in-Clear.ensures.answer refl

pub returns-clause-run : goal.returns-clause-run
returns-clause-run c =
    let certificate = c.args.certificate.now in
    clear_run c.args.office.now (ordered_merge_set_of certificate) (entries_in certificate.entries) c.args.commands.now c.perform_quiet.result.replies.items
    c.perform_quiet.new.office c.perform_quiet.result.stopped c.in-Clear.ensures.answer c.perform_quiet.ensures
