use Rattle.std.proofs.Common.{◌∙◌, ◌++◌, List, Option, ap, map}
use Rattle.clr_rules.specs.declared.sides.Side.{Side}
use Rattle.clr_merge_sets.specs.MemberChanges.{set_of}
use Rattle.clr_tips.specs.declared.splits.Split.{Split}
use Rattle.clr_tips.specs.Splitting.{splits_of}
use Rattle.clr_work_orders.specs.declared.actions.Action.TheVariants as action
use Rattle.clr_work_orders.proofs.remedies.add_splitting.Goals as goal

pub returns : goal.returns
returns c are =
    let o = c.args.setting.office.now in
    let m = c.args.setting.members.now in
    let old = c.args.list.now.items in
    c.in_ok-add_splits.ensures
    ∙ ap (λ (ways : List Split). old ++ map action.Split ways)
    (c.as_slice.ensures.value ∙ c.in_ok-splits.ensures are
    ∙ ap (λ (side : Option Side). splits_of o (set_of m) m.changes.items c.args.need.now side c.args.near) c.side_of-side.ensures)
