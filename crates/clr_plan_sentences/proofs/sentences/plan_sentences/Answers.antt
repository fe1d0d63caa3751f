use Rattle.std.proofs.Common.{◌∙◌, ◌++◌, ℕ, List, ap, string_bytes, subst}
use Rattle.clr_rows.specs.Contents.{Changes}
use Rattle.clr_merge_sets.specs.MemberChanges.{set_of}
use Rattle.clr_plan_answers.specs.Answers.{answer_text}
use Rattle.clr_plan_sentences.specs.Sentences.{AreDetails, verdict_text}
use Rattle.clr_plan_sentences.proofs.sentences.plan_sentences.Goals as goal

pub returns : goal.returns
returns c = λ are.
    let o = c.args.setting.office.now in
    let s = set_of c.args.setting.members.now in
    let p = c.args.plan.now in
    let details = string_bytes c.in_ok-details.details in
    let begun = c.in_ok-text.ensures.ok ∙ c.verdict_words.ensures in
    let answered = c.in_ok-push_str.ensures.bytes ∙ ap (λ (t : List ℕ). t ++ c.as_str.result.now) begun
    ∙ ap (λ (t : List ℕ). verdict_text p ++ t) (c.as_str.ensures.value ∙ c.in_ok-answer.ensures) in (
      details,
      subst (λ (sets : List Changes). AreDetails o s sets p details) are.changes (c.in_ok-details.ensures are),
      c.in_ok-push_str-2.ensures.bytes ∙ ap (λ (t : List ℕ). t ++ c.as_str-2.result.now) answered
          ∙ ap (λ (t : List ℕ). verdict_text p ++ answer_text s p ++ t) c.as_str-2.ensures.value,
    )
