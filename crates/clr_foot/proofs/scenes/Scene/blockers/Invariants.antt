use Rattle.clr_foot.specs.Scenes.{setting_in}
use Rattle.clr_needs.proofs.BlockerLaws.{AreBlockersTo}
use Rattle.clr_foot.proofs.scenes.Scene.blockers.Given as goal

-- the blockers among the members so far
abbrev pub invariant-loop-position : goal.invariant-loop-position
invariant-loop-position g l = AreBlockersTo (setting_in g.V.RowView.content l.self) l.need l.position l.list.items
