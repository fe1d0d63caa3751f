use Rattle.std.proofs.Common.{◌∙◌, ◌++◌, ℕ, List, ap, map, string_bytes, subst, sym}
use Rattle.clr_merge_sets.specs.MemberChanges.{set_of}
use Rattle.clr_plan_page.specs.Reasons.{IsWhy}
use Rattle.clr_page_parts.specs.Shown.{Shown, said, shown}
use Rattle.clr_plan_page.proofs.ReasonLemmas.{why_whole}
use Rattle.clr_plan_page.proofs.reports.why_of.Goals as goal

pub returns : goal.returns
returns c =
    let o = c.args.setting.office.now in
    let m = c.args.setting.members.now in
    let p = c.args.plan.now in
    let trials = c.args.trials.now in
    let answer = c.as_str.ensures.value ∙ c.in_ok-answer.ensures in
    subst (λ (blocks : List Shown). IsWhy o (set_of m) p trials blocks) (sym c.into_section.ensures)
    (why_whole o (set_of m) m.changes.items p trials c.as_str.result.now (string_bytes c.in_ok-orders.orders) _ _ _ _ _ c.requires.changes answer
    c.in_ok-orders.ensures (ap (map shown) c.new-section.ensures) c.in_ok-add_heading.ensures c.in_ok-add_paragraph.ensures c.in_ok-add_reasons.ensures
    (c.in_ok-add_paragraph-2.ensures ∙ ap (λ (text : List ℕ). map shown c.add_reasons.new.section.blocks.items ++ said text) c.as_str-2.ensures.value))
