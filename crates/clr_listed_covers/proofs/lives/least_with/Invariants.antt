use Rattle.clr_foot.specs.Scenes.{model_of, setting_of}
use Rattle.clr_needs.specs.Members.{lifetime}
use Rattle.clr_needs.specs.Witnesses.{has_life_at}
use Rattle.clr_needs.proofs.VersionOrder.{NonePasses}
use Rattle.clr_listed_covers.proofs.lives.least_with.Given as goal

-- none of the versions so far has the life
abbrev pub invariant-loop-id : goal.invariant-loop-id
invariant-loop-id g l = NonePasses (has_life_at (lifetime l.life) (setting_of (model_of g.V.RowView.content l.scene))) l.ids l.id-index
