use Rattle.clr_foot.specs.Scenes.{setting_in}
use Rattle.clr_foot.proofs.FirstServerLaws.{of_need}
use Rattle.clr_foot.proofs.ServerLaws.{possible_number}
use Rattle.clr_foot.proofs.scenes.Scene.early_server.Goals as goal

pub spots_of-spots-requires-clause-number : goal.spots_of-spots-requires-clause-number
spots_of-spots-requires-clause-number g c = possible_number (setting_in g.V.RowView.content c.args.self.now) c.args.need.now c.requires.possible

pub first_sought-found-requires-clause-number : goal.first_sought-found-requires-clause-number
first_sought-found-requires-clause-number g c = possible_number (setting_in g.V.RowView.content c.args.self.now) c.args.need.now c.requires.possible

pub returns-in-Some : goal.returns-in-Some
returns-in-Some g c =
    of_need c.args.sought (setting_in g.V.RowView.content c.args.self.now) c.args.need.now c.in-Some.first c.version_if_any-second.result c.in-Some.ensures
    c.version_if_any-second.ensures c.requires.possible
    c.first_sought-found.result c.first_sought-found.ensures
