use Rattle.std.proofs.Common.{◌++◌, List, ap, length, ◌∙◌}
use Rattle.std.specs.Prelude.{codes}
use Rattle.clr_rules.specs.declared.needs.Broken.{Broken}
use Rattle.clr_lines.specs.Reports.{count_line}
use Rattle.clr_office_texts.proofs.BrokenNowLemmas.{broken_now_is}
use Rattle.clr_old_errors.specs.RuleCounts.{rule_counts_text}
use Rattle.clr_desk_errors.proofs.accepting.accepted_lines.Goals as goal

pub returns : goal.returns
returns c =
    let o = c.args.office.now in
    let needs = broken_now_is o c.len-standing.ensures.sound c.in_ok-needs.needs.items c.in_ok-needs.ensures in
    let counted = c.in_ok-lines.ensures ∙ ap (λ (list : List Broken). count_line (codes "accepted") (length list)) (c.as_slice.ensures.value ∙ needs) in
    c.in_ok-add_rule_counts.ensures
    ∙ (λ i. counted i ++ rule_counts_text (c.schema.ensures.value i) (c.book.ensures.value i) ((c.as_slice-2.ensures.value ∙ needs) i))
