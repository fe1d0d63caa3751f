use Rattle.std.proofs.Common.{subst, sym}
use Rattle.clr_foot.specs.Scenes.{setting_in}
use Rattle.clr_needs.proofs.NeedOrder.{need_exact}
use Rattle.clr_foot.specs.declared.ties.TieKind.TheVariants.{Any}
use Rattle.clr_foot.specs.Ties.{AreVersionsOf}
use Rattle.clr_foot.proofs.TieLaws.{all_involved, ties_are}
use Rattle.clr_foot.proofs.scenes.Scene.needs_involving.Goals as goal

pub put_in_order-requires : goal.put_in_order-requires
put_in_order-requires g c = need_exact

pub returns : goal.returns
returns g c =
    let s = setting_in g.V.RowView.content c.args.self.now in
    all_involved s c.args.position _ _
    (ties_are s Any c.args.position c.as_slice.result.now c.in_ok-needs.needs.items
    (subst (AreVersionsOf s c.args.position) (sym c.as_slice.ensures.value) c.in_ok-versions.ensures) c.in_ok-needs.ensures)
    c.put_in_order.ensures.ascending c.put_in_order.ensures.same
