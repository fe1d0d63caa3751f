use Rattle.std.proofs.Common.{ap, sym}
use Rattle.clr_merge_sets.specs.Certificates.{entries_in, ordered_merge_set_of, pairs_in}
use Rattle.clr_check.proofs.AnswerLemmas.{clear_everywhere, clear_promises, named_answers}
use Rattle.clr_check.proofs.checks.check.Goals as goal

pub returns-in-Some-clause-answer : goal.returns-in-Some-clause-answer
returns-in-Some-clause-answer c =
    let certificate = c.args.certificate.now in
    named_answers c.args.office.now (ordered_merge_set_of certificate) (entries_in certificate.entries) c.in-Some.fault (sym c.in-Some.ensures.fault)

pub returns-in-Some-clause-cleared : goal.returns-in-Some-clause-cleared
returns-in-Some-clause-cleared c =
    let certificate = c.args.certificate.now in
    clear_promises c.args.office.now (ordered_merge_set_of certificate) (entries_in certificate.entries) c.in-Some.fault (returns-in-Some-clause-answer c)

pub returns-in-Ok-clause-cleared : goal.returns-in-Ok-clause-cleared
returns-in-Ok-clause-cleared c =
    let certificate = c.args.certificate.now in
    clear_promises c.args.office.now (ordered_merge_set_of certificate) (entries_in certificate.entries) c.judge_changes.result c.judge_changes.ensures

pub returns-in-Some-clause-every_order : goal.returns-in-Some-clause-every_order
returns-in-Some-clause-every_order c none =
    let certificate = c.args.certificate.now in
    clear_everywhere c.args.office.now (ordered_merge_set_of certificate) (entries_in certificate.entries) c.in-Some.fault (returns-in-Some-clause-answer c)
    (ap pairs_in none)

pub returns-in-Ok-clause-every_order : goal.returns-in-Ok-clause-every_order
returns-in-Ok-clause-every_order c none =
    let certificate = c.args.certificate.now in
    clear_everywhere c.args.office.now (ordered_merge_set_of certificate) (entries_in certificate.entries) c.judge_changes.result c.judge_changes.ensures
    (ap pairs_in none)
