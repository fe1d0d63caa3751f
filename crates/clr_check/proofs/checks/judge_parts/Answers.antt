use Rattle.std.proofs.Common.{subst, sym}
use Rattle.clr_check.specs.Answers.{IsCheckAnswer}
use Rattle.clr_merge_sets.specs.Certificates.{entries_in, merge_set_of, ordered_merge_set_of}
use Rattle.clr_check.proofs.AnswerLemmas.{clear_answers, scene_answers, uncovered_answers}
use Rattle.clr_check.proofs.checks.judge_parts.Goals as goal

pub returns-in-Ok-None : goal.returns-in-Ok-None
returns-in-Ok-None c =
    let o = c.args.office.now in
    let certificate = c.args.certificate.now in
    let made = c.in-Ok.ensures.scene (merge_set_of certificate) c.requires.parts in
    let covered = rw c.in-Ok-None.field-0-is at c.in-Ok-None.ensures in
    clear_answers o (ordered_merge_set_of certificate) (entries_in certificate.entries) c.requires.named c.requires.parts.free c.args.pairs.now
    c.requires.pairs _ made.setting made.apart (rw c.as_slice-entries.ensures at covered)

pub returns-in-Ok-Some : goal.returns-in-Ok-Some
returns-in-Ok-Some c =
    let o = c.args.office.now in
    let certificate = c.args.certificate.now in
    let made = c.in-Ok.ensures.scene (merge_set_of certificate) c.requires.parts in
    let least = rw c.in-Ok-Some.field-0-is at c.in-Ok-Some.ensures in
    uncovered_answers o (ordered_merge_set_of certificate) (entries_in certificate.entries) c.requires.named c.requires.parts.free c.args.pairs.now
    c.requires.pairs _ made.setting made.apart c.in-Ok-Some.need (rw c.as_slice-entries.ensures at least)

pub returns : goal.returns
returns c =
    let o = c.args.office.now in
    let certificate = c.args.certificate.now in
    let ordered = ordered_merge_set_of certificate in
    let entries = entries_in certificate.entries in
    subst (IsCheckAnswer o ordered entries) (sym c.verdict_of.ensures) (scene_answers o ordered entries c.requires.named c.requires.parts.free c.in-Err.fault
    (c.in-Err.ensures.shared (merge_set_of certificate) c.requires.parts))
