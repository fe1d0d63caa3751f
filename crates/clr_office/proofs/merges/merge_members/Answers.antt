use Rattle.std.proofs.Common.{◌≡◌, ap, refl, sym, subst, ◌∙◌}
use Rattle.clr_steps.specs.Offices.{Office}
use Rattle.clr_clearance.specs.Plans.{merges}
use Rattle.clr_clearance.specs.declared.verdicts.Verdict.TheVariants as verdict
use Rattle.clr_merge_sets.specs.Certificates.{entries_in, ordered_merge_set_of}
use Rattle.clr_check.specs.Answers.{of_verdict}
use Rattle.clr_check.proofs.AnswerLemmas.{clear_promises}
use Rattle.clr_lines.specs.Verdicts.{verdict_text_in_turn}
use Rattle.clr_office.specs.Clearances.{IsMergeOutcome}
use Rattle.clr_office_reports.specs.Outcomes.{outcome_of}
use Rattle.clr_office.proofs.CaseTexts.{merged, not_merged}
use Rattle.clr_office.proofs.merges.merge_members.Goals as goal

pub returns-in-Ok : goal.returns-in-Ok
returns-in-Ok c =
    let run = c.in-Ok.run' in
    let performed = c.in-Ok.ensures in
    let output = c.in_ok-run_output-in-Ok.field-0 in
    let made = c.in_ok-run_output-in-Ok.ensures in
    let are : c.as_slice.result.now ≡ merges c.args.names.now = c.as_slice.ensures.value ∙ c.in_ok-commands.ensures in
    let o = c.args.office.now in
    let certificate = c.args.certificate.now in
    let promised = clear_promises o (ordered_merge_set_of certificate) (entries_in certificate.entries) verdict.Clear
    (of_verdict performed.clear) refl in
    merged o c.perform_cleared.new.office certificate c.args.names.now c.as_slice.result.now run.replies.items run.stopped output
    are performed.clear performed.start performed.run promised.runs made.lines made.refused made.lost

pub returns : goal.returns
returns c =
    let o = c.args.office.now in
    let certificate = c.args.certificate.now in
    let names = c.args.names.now in
    let v = c.in-Err.verdict in
    let output = c.in_ok-verdict_output-in-Err.field-0 in
    let made = c.in_ok-verdict_output-in-Err.ensures in
    let same = c.in-Err.ensures.unchanged in
    let schema = c.schema.ensures.value ∙ ap (λ (x : Office). x.schema) same in
    let lines : output.lines.items ≡ verdict_text_in_turn o.schema certificate.members certificate.before certificate.root v = rw (← schema) made.lines in
    subst (λ (left : Office). IsMergeOutcome o certificate names (outcome_of output left)) (sym same)
    (not_merged o certificate v output lines made.refused made.lost names c.in-Err.ensures.refused)
