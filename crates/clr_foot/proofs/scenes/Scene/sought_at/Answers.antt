use Rattle.clr_foot.specs.Scenes.{setting_in}
use Rattle.clr_foot.proofs.FirstServerLaws.{none_at}
use Rattle.clr_foot.proofs.scenes.Scene.sought_at.Goals as goal

pub returns : goal.returns
returns g c =
    none_at c.args.sought (setting_in g.V.RowView.content c.args.self.now) c.args.need.now c.args.first c.args.second c.args.cell c.is_server_sought.result
    c.is_server_sought.ensures c.if-is_server_sought.false
    c.is_server_sought-2.result c.is_server_sought-2.ensures c.if-is_server_sought-2.false
