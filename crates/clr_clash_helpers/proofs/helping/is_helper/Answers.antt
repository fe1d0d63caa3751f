use Rattle.std.proofs.Common.{◌∙◌, ◌==◌, ap}
use Rattle.std.specs.List.{list_any}
use Rattle.clr_foot.specs.Scenes.{model_of, setting_of}
use Rattle.clr_clash_helpers.proofs.HelperLemmas.{helper_told}
use Rattle.clr_clash_helpers.proofs.helping.is_helper.Goals as goal

pub returns : goal.returns
returns g c =
    helper_told (setting_of (model_of g.V.RowView.content c.args.scene.now)) c.args.need.now c.in_ok-positions.positions.items c.args.place c.is_among.result
    c.requires.possible c.in_ok-positions.ensures (c.is_among.ensures ∙ ap (list_any (λ x. x == c.args.place)) c.as_slice.ensures.value)
