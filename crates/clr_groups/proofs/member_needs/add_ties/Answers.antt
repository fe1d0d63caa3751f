use Rattle.clr_foot.specs.Scenes.{setting_in}
use Rattle.clr_groups.proofs.MemberNeedLists.{others_are_pairs, ties_added, touching_are_pairs}
use Rattle.clr_groups.proofs.member_needs.add_ties.Goals as goal

pub add_needs-requires : goal.add_needs-requires
add_needs-requires g c =
    touching_are_pairs (setting_in g.V.RowView.content c.args.scene.now) c.args.member c.in_ok-ties.ties.touching.items c.as_slice.result.now
    c.as_slice.ensures.value c.in_ok-ties.ensures.touching

pub add_needs-requires-2 : goal.add_needs-requires-2
add_needs-requires-2 g c =
    others_are_pairs (setting_in g.V.RowView.content c.args.scene.now) c.args.member c.in_ok-ties.ties.others.items c.as_slice-2.result.now
    c.as_slice-2.ensures.value c.in_ok-ties.ensures.others

pub returns : goal.returns
returns g c =
    ties_added (setting_in g.V.RowView.content c.args.scene.now) c.args.member c.in_ok-ties.ties.touching.items c.in_ok-ties.ties.others.items
    c.as_slice.result.now c.as_slice-2.result.now _ _ _ c.as_slice.ensures.value c.as_slice-2.ensures.value c.in_ok-ties.ensures.touching
    c.in_ok-ties.ensures.others c.in_ok-add_needs.ensures c.in_ok-add_needs-2.ensures
