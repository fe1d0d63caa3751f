use Rattle.std.proofs.Common.{◌<◌, length, subst, sym}
use Rattle.clr_foot.specs.Scenes.{setting_in}
use Rattle.clr_foot.proofs.ServerLaws.{at_too, none_serving, possible_number, possible_there, serving_told}
use Rattle.clr_foot.proofs.scenes.Scene.is_server.Goals as goal

pub returns-in-None : goal.returns-in-None
returns-in-None g c = absurd (possible_there (setting_in g.V.RowView.content c.args.self.now) c.args.need.now c.requires.possible c.in-None.ensures)

pub returns-in-None-version : goal.returns-in-None-version
returns-in-None-version g c = none_serving (setting_in g.V.RowView.content c.args.self.now) c.args.need.now c.args.id c.in-None-version.ensures

pub serves_if_any-requires-clause-number : goal.serves_if_any-requires-clause-number
serves_if_any-requires-clause-number g c =
    subst (λ ask. ask.rule < length c.args.self.now.book.now) (sym c.ask.ensures) (possible_number (setting_in g.V.RowView.content c.args.self.now)
    c.args.need.now c.requires.possible)

pub serves_if_any-requires-clause-second : goal.serves_if_any-requires-clause-second
serves_if_any-requires-clause-second g c = at_too (setting_in g.V.RowView.content c.args.self.now) c.args.need.now.second c.version_if_any-second.result
    c.version_if_any-second.ensures

pub returns-in-Some-version : goal.returns-in-Some-version
returns-in-Some-version g c =
    serving_told (setting_in g.V.RowView.content c.args.self.now) c.args.need.now c.in-Some.first c.version_if_any-second.result c.in-Some.ensures
    c.version_if_any-second.ensures c.args.id c.in-Some-version.server c.in-Some-version.ensures c.ask.result c.ask.ensures c.serves_if_any.result
    c.serves_if_any.ensures c.requires.possible
