use Rattle.clr_foot.specs.Scenes.{model_of, setting_of}
use Rattle.clr_open_needs.proofs.HelperLaws.{takes_is_helper, told_helper}
use Rattle.clr_open_needs.proofs.helping.is_helper.Goals as goal

pub returns-then-has_subject_with : goal.returns-then-has_subject_with
returns-then-has_subject_with g c =
    takes_is_helper (setting_of (model_of g.V.RowView.content c.args.scene.now)) c.args.need.now c.has_subject_with.result c.args.position c.requires.possible
    c.has_subject_with.ensures c.if-has_subject_with.true

pub returns : goal.returns
returns g c =
    told_helper (setting_of (model_of g.V.RowView.content c.args.scene.now)) c.args.need.now c.args.servers.now c.requires.servers c.args.position
    c.has_subject_with.result c.has_subject_with.ensures c.if-has_subject_with.false c.has_server_with.result c.has_server_with.ensures
