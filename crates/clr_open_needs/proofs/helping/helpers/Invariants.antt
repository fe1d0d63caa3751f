use Rattle.clr_foot.specs.Scenes.{model_of, setting_of}
use Rattle.clr_open_needs.proofs.HelperLaws.{AreHelpersTo}
use Rattle.clr_open_needs.proofs.helping.helpers.Given as goal

-- the helpers among the members so far
abbrev pub invariant-loop-position : goal.invariant-loop-position
invariant-loop-position g l = AreHelpersTo (setting_of (model_of g.V.RowView.content l.scene)) l.need l.position l.list.items
