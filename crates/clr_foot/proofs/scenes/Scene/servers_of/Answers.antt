use Rattle.std.proofs.Common.{true, false, subst, sym}
use Rattle.clr_needs.specs.declared.needs.VersionId.{VersionId}
use Rattle.clr_foot.specs.Scenes.{setting_in}
use Rattle.clr_foot.specs.Touches.{IsNeighbour}
use Rattle.clr_row_versions.specs.Versions.{AreAt, Finds, row_of}
use Rattle.clr_needs.proofs.NeedOrder.{version_exact}
use Rattle.clr_foot.proofs.ServerLaws.{servers_exactly}
use Rattle.clr_foot.proofs.scenes.Scene.servers_of.Goals as goal

pub add_servers-requires-clause-others : goal.add_servers-requires-clause-others
add_servers-requires-clause-others g c = subst (AreAt (setting_in g.V.RowView.content c.args.self.now)) (sym c.as_slice.ensures.value) (c.in_ok-old.ensures
    (row_of c.args.first) c.spots_of-spots.ensures).are

pub put_in_order-requires : goal.put_in_order-requires
put_in_order-requires g c = version_exact

pub returns : goal.returns
returns g c =
    let s = setting_in g.V.RowView.content c.args.self.now in
    let near = IsNeighbour true s.rules c.args.ask.rule (row_of c.args.first) in
    let found = λ (v : VersionId). servers_exactly s c.args.ask c.args.first c.args.second _ _ _ _ _ v c.requires.called
    (subst (Finds s false near) (sym c.as_slice.ensures.value) (c.in_ok-old.ensures (row_of c.args.first) c.spots_of-spots.ensures))
    (subst (Finds s true near) (sym c.as_slice-2.ensures.value) (c.in_ok-new.ensures
    (row_of c.args.first) c.spots_of-spots.ensures)) c.new-names.ensures.items c.in_ok-add_servers.ensures.ok
    c.in_ok-add_servers-2.ensures.ok in
    record {
      ascending = c.put_in_order.ensures.ascending;
      exactly = λ v. (λ h. (found v).0 ((c.put_in_order.ensures.same v).0 h), λ w. (c.put_in_order.ensures.same v).1 ((found v).1 w));
    }
