use Rattle.clr_needs.proofs.Reading.{read_in}
use Rattle.clr_row_versions.proofs.Gaining.{of_one_more}
use Rattle.clr_foot.specs.Scenes.{setting_in}
use Rattle.clr_groups.specs.MemberNeeds.{IsOfNeed, IsPair}
use Rattle.clr_groups.proofs.member_needs.add_needs.Goals as goal

pub add_need-requires : goal.add_need-requires
add_need-requires g c = c.requires _ (read_in c.args.needs.now c.loop-need.need-index _ c.loop-need-test.true)

pub loop-need-preserved : goal.loop-need-preserved
loop-need-preserved g c =
    let s = setting_in g.V.RowView.content c.args.scene.now in
    of_one_more (IsPair s) (IsOfNeed s c.args.member c.args.touches) c.args.needs.now c.loop-need.need-index _ _ _ _ c.loop-need-test.true c.loop-need.invariant
    c.in_ok-add_need.ensures
