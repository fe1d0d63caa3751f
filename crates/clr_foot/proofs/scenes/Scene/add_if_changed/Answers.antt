use Rattle.std.proofs.Common.{◌∙◌, sym}
use Rattle.clr_foot.specs.Scenes.{setting_in}
use Rattle.clr_foot.proofs.TouchSteps.{changed_gained, living_gained}
use Rattle.clr_foot.proofs.scenes.Scene.add_if_changed.Goals as goal

pub returns-then-is_living : goal.returns-then-is_living
returns-then-is_living g c = living_gained (setting_in g.V.RowView.content c.args.self.now) c.args.rule c.args.version c.args.needs.now.items
    (sym c.is_living.ensures ∙ c.if-is_living.true)

pub returns : goal.returns
returns g c = changed_gained (setting_in g.V.RowView.content c.args.self.now) c.args.rule c.args.version _ _ c.requires.at
    (sym c.is_living.ensures ∙ c.if-is_living.false) c.in_ok-add_served_by.ensures.ok
