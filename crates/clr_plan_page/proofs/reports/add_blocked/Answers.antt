use Rattle.std.proofs.Common.{◌∙◌, map}
use Rattle.std.proofs.lemmas.Result.{on_ok_weaker}
use Rattle.clr_merge_sets.specs.MemberChanges.{set_of}
use Rattle.clr_page_parts.specs.Shown.{shown}
use Rattle.clr_plan_page.proofs.ReasonLemmas.{blocked_told}
use Rattle.clr_plan_page.proofs.reports.add_blocked.Goals as goal

pub returns : goal.returns
returns c =
    let o = c.args.setting.office.now in
    let m = c.args.setting.members.now in
    on_ok_weaker c.add_remedies.result
    (λ told. blocked_told o (set_of m) m.changes.items c.args.order.now c.args.cause.now c.as_str.result.now c.args.trials.now c.in_ok-cause.cause
    (map shown c.args.section.now.blocks.items) (map shown c.add_cause.new.section.blocks.items) (map shown c.add_remedies.new.section.blocks.items)
    (c.in_ok-cause.ensures c.requires) (c.as_str.ensures.value ∙ c.in_ok-among.ensures) c.in_ok-add_cause.ensures told) c.add_remedies.ensures
