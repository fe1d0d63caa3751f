use Rattle.std.proofs.Common.{subst}
use Rattle.clr_merge_sets.specs.Faults.{IsMergeSetFault}
use Rattle.clr_merge_sets.specs.Certificates.{entries_in, ordered_merge_set_of}
use Rattle.clr_merge_sets.specs.MergeSetNames.{merge_set}
use Rattle.clr_merge_sets.specs.MergeSets.{AreParts}
use Rattle.clr_check.proofs.AnswerLemmas.{fault_answers}
use Rattle.clr_check.proofs.checks.judge_members.Goals as goal

pub judge_parts-requires-clause-parts : goal.judge_parts-requires-clause-parts
judge_parts-requires-clause-parts c =
    subst (λ root. AreParts c.args.office.now (merge_set root c.args.certificate.now.members) c.in-Ok.parts) c.as_str.ensures c.in-Ok.ensures.parts

pub returns-in-Err : goal.returns-in-Err
returns-in-Err c =
    let o = c.args.office.now in
    let certificate = c.args.certificate.now in
    let fault = subst (λ root. IsMergeSetFault o (merge_set root certificate.members) c.in-Err.verdict) c.as_str.ensures c.in-Err.ensures.fault in
    fault_answers o (ordered_merge_set_of certificate) (entries_in certificate.entries) c.requires.named c.in-Err.verdict fault
