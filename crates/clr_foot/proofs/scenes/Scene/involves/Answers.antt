use Rattle.clr_foot.specs.Scenes.{setting_in}
use Rattle.clr_foot.proofs.InvolvedLaws.{none_involves, server_involves}
use Rattle.clr_foot.proofs.scenes.Scene.involves.Goals as goal

pub returns-in-None : goal.returns-in-None
returns-in-None g c =
    none_involves (setting_in g.V.RowView.content c.args.self.now) c.args.need.now c.args.position c.in_ok-servers.servers.items c.as_slice.result.now
    c.in_ok-servers.ensures c.as_slice.ensures.value
    c.has_named_subject.result c.has_named_subject.ensures c.if-has_named_subject.false c.in-None.ensures

pub returns : goal.returns
returns g c =
    server_involves (setting_in g.V.RowView.content c.args.self.now) c.args.need.now c.args.position c.in_ok-servers.servers.items c.as_slice.result.now
    c.in_ok-servers.ensures c.as_slice.ensures.value
    c.in-Some.field-0 c.in-Some.ensures.0 c.in-Some.ensures.1
