use Rattle.std.proofs.Common.{[], ◌≡◌, length, arith, refl, subst, sym}
use Rattle.clr_row_versions.specs.Gains.{Gains}
use Rattle.clr_foot.specs.Scenes.{model_of, setting_in}
use Rattle.clr_groups.specs.MemberNeeds.{IsOfTies, IsPair}
use Rattle.clr_groups.proofs.MemberNeedLists.{OfBelow, member_need_exact, none_below, one_below}
use Rattle.clr_groups.proofs.TyingNeeds.{all_tied}
use Rattle.clr_groups.proofs.member_needs.member_needs.Goals as goal

pub loop-member-init : goal.loop-member-init
loop-member-init g c =
    let s = setting_in g.V.RowView.content c.args.scene.now in
    subst (Gains (IsPair s) (OfBelow (IsOfTies s) 0) []) (sym c.new-list.ensures.items) (none_below (IsPair s) (IsOfTies s) [])

pub loop-member-preserved : goal.loop-member-preserved
loop-member-preserved g c =
    let s = setting_in g.V.RowView.content c.args.scene.now in
    one_below (IsPair s) (IsOfTies s) c.loop-member.member [] _ _ c.loop-member.invariant c.in_ok-add_ties.ensures

pub put_in_order-requires : goal.put_in_order-requires
put_in_order-requires g c = member_need_exact

pub returns : goal.returns
returns g c =
    let model = model_of g.V.RowView.content c.args.scene.now in
    let members = c.len-member-end.ensures.members in
    let most = c.loop-member.auto.member-end in
    let least = c.loop-member-test.false in
    let end : c.loop-member.member ≡ length model.sets = omega (arith, members, most, least) in
    all_tied model.rules model.root model.sets (length model.sets) c.loop-member.member _ _ refl end c.loop-member.invariant
    c.put_in_order.ensures.ascending c.put_in_order.ensures.same
