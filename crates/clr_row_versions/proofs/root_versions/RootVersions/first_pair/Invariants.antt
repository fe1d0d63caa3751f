use Rattle.std.proofs.Common.{ℕ, ◌<◌}
use Rattle.clr_row_versions.specs.RootVersions.{setting_in}
use Rattle.clr_needs.specs.Witnesses.{HasPair}
use Rattle.clr_row_versions.proofs.root_versions.RootVersions.first_pair.Given as goal

-- none of the members so far has a pair
abbrev pub invariant-loop-position : goal.invariant-loop-position
invariant-loop-position g l = (x : ℕ) → x < l.position → ¬ (HasPair (setting_in g.V.RowView.content l.self) l.ids x)
