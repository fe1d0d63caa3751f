use Rattle.clr_foot.specs.Scenes.{setting_in}
use Rattle.clr_needs.proofs.BreakLaws.{none_living, some_living}
use Rattle.clr_foot.proofs.scenes.Scene.is_broken.Goals as goal

pub returns-in-None : goal.returns-in-None
returns-in-None g c =
    none_living (setting_in g.V.RowView.content c.args.self.now) c.args.need.now c.in_ok-servers.servers.items c.as_slice.result.now c.in_ok-servers.ensures
    c.as_slice.ensures.value
    c.are_living.result c.requires.possible c.are_living.ensures c.if-not-are_living.false c.in-None.ensures

pub returns : goal.returns
returns g c =
    some_living (setting_in g.V.RowView.content c.args.self.now) c.args.need.now c.in_ok-servers.servers.items c.as_slice.result.now c.in_ok-servers.ensures
    c.as_slice.ensures.value
    c.in-Some-first_living.field-0 c.in-Some-first_living.ensures.0 c.in-Some-first_living.ensures.1
