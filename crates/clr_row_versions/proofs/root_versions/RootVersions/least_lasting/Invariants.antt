use Rattle.clr_row_versions.specs.RootVersions.{setting_in}
use Rattle.clr_needs.specs.Witnesses.{lasts_at}
use Rattle.clr_needs.proofs.VersionOrder.{NonePasses}
use Rattle.clr_row_versions.proofs.root_versions.RootVersions.least_lasting.Given as goal

-- none of the versions so far lasts
abbrev pub invariant-loop-id : goal.invariant-loop-id
invariant-loop-id g l = NonePasses (lasts_at (setting_in g.V.RowView.content l.self) l.need) l.ids l.id-index
