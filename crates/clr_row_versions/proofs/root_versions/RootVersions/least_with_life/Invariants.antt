use Rattle.clr_needs.specs.Members.{lifetime}
use Rattle.clr_row_versions.specs.RootVersions.{setting_in}
use Rattle.clr_needs.specs.Witnesses.{has_life_at}
use Rattle.clr_needs.proofs.VersionOrder.{NonePasses}
use Rattle.clr_row_versions.proofs.root_versions.RootVersions.least_with_life.Given as goal

-- none of the versions so far has the life
abbrev pub invariant-loop-id : goal.invariant-loop-id
invariant-loop-id g l = NonePasses (has_life_at (lifetime l.life) (setting_in g.V.RowView.content l.self)) l.ids l.id-index
