use Rattle.std.proofs.Common.{◌≡◌, true, take, Contains}
use Rattle.clr_needs.specs.declared.needs.VersionId.{VersionId}
use Rattle.clr_row_versions.specs.Naming.{names_at}
use Rattle.clr_row_versions.specs.RootVersions.{setting_in}
use Rattle.clr_needs.specs.Settings.{version}
use Rattle.clr_row_versions.proofs.root_versions.RootVersions.first_naming.Given as goal

-- the life of none of the versions so far names the member
abbrev pub invariant-loop-id : goal.invariant-loop-id
invariant-loop-id g l = (v : VersionId) → Contains (take l.id-index l.ids) v → names_at l.position (version (setting_in g.V.RowView.content l.self) v) ≡ true
    → ⊥
