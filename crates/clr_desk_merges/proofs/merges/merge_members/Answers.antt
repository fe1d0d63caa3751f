use Rattle.std.proofs.Common.{◌≡◌, ap, refl, subst, ◌∙◌, length, take}
use Rattle.std.proofs.lemmas.Result.{IfOk-weaker}
use Rattle.clr_steps.specs.Offices.{Office}
use Rattle.clr_ordered_clearance.specs.Runs.{IsClearedRunInTurn, IsQuietStartInTurn}
use Rattle.clr_clearance.specs.Plans.{merges}
use Rattle.clr_clearance.specs.declared.verdicts.Verdict.TheVariants as verdict
use Rattle.clr_merge_sets.specs.Certificates.{entries_in, ordered_merge_set_of}
use Rattle.clr_check.specs.Answers.{of_verdict as of_answer}
use Rattle.clr_check.proofs.AnswerLemmas.{clear_promises}
use Rattle.clr_lines.specs.Verdicts.{verdict_text_in_turn}
use Rattle.clr_office.specs.Clearances.{AreMerged}
use Rattle.clr_desk_merges.specs.Merges.{of_merges, of_verdict}
use Rattle.clr_desk_merges.proofs.merges.merge_members.Goals as goal

pub returns-in-Ok : goal.returns-in-Ok
returns-in-Ok c =
    let o = c.args.office.now in
    let left = c.perform_cleared.new.office in
    let certificate = c.args.certificate.now in
    let names = c.args.names.now in
    let run = c.in-Ok.run' in
    let performed = c.in-Ok.ensures in
    let are : c.as_slice.result.now ≡ merges names = c.as_slice.ensures.value ∙ c.in_ok-commands.ensures in
    let promised = clear_promises o (ordered_merge_set_of certificate) (entries_in certificate.entries) verdict.Clear
    (of_answer performed.clear) refl in
    let all : AreMerged o certificate names run.replies.items run.stopped left = record {
      clear = performed.clear;
      start = subst (λ cs. IsQuietStartInTurn o (ordered_merge_set_of certificate) cs run.replies.items left run.stopped) are performed.start;
      run = subst (λ cs. IsClearedRunInTurn o (ordered_merge_set_of certificate) (take (length run.replies.items) cs) run.replies.items left) are performed.run;
      runs = promised.runs;
    } in
    IfOk-weaker c.run_print.result _ _ (λ print is. of_merges run.replies.items run.stopped left all is) c.run_print.ensures

pub returns : goal.returns
returns c =
    let o = c.args.office.now in
    let certificate = c.args.certificate.now in
    let v = c.in-Err.verdict in
    let output = c.in_ok-output-in-Err.output in
    let made = c.in_ok-output-in-Err.ensures in
    let schema = c.schema.ensures.value ∙ ap (λ (x : Office). x.schema) c.in-Err.ensures.unchanged in
    let lines : output.lines.items ≡ verdict_text_in_turn o.schema certificate.members certificate.before certificate.root v = rw (← schema) made.lines in
    of_verdict v c.in-Err.ensures.refused (rw (c.new-in-Err.ensures, c.new.ensures.items, lines, made.refused, made.lost))
