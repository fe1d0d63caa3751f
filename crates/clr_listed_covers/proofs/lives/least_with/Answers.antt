use Rattle.clr_foot.specs.Scenes.{model_of, setting_of}
use Rattle.clr_needs.specs.Members.{lifetime}
use Rattle.clr_needs.specs.Witnesses.{has_life_at}
use Rattle.clr_needs.proofs.VersionOrder.{first_is_least, none_at_all, none_more, unread}
use Rattle.clr_listed_covers.proofs.lives.least_with.Goals as goal

pub returns-then-has_life : goal.returns-then-has_life
returns-then-has_life g c =
    first_is_least (has_life_at (lifetime c.args.life) (setting_of (model_of g.V.RowView.content c.args.scene.now))) c.args.ids.now c.loop-id.id-index unread
    c.has_life.result c.loop-id-test.true c.has_life.ensures c.loop-id.invariant c.requires.ascending c.if-has_life.true

pub loop-id-preserved : goal.loop-id-preserved
loop-id-preserved g c =
    none_more (has_life_at (lifetime c.args.life) (setting_of (model_of g.V.RowView.content c.args.scene.now))) c.args.ids.now c.loop-id.id-index unread
    c.has_life.result c.loop-id-test.true c.has_life.ensures c.loop-id.invariant c.if-has_life.false

pub returns : goal.returns
returns g c = none_at_all (has_life_at (lifetime c.args.life) (setting_of (model_of g.V.RowView.content c.args.scene.now))) c.args.ids.now
    c.loop-id.id-index c.loop-id-test.false c.loop-id.invariant
