-- What is read of the members of a merge set, and the rows of its versions.
use Rattle.std.specs.Prelude.{◌≡◌, Option, map, unwrap_or}
use Rattle.std.specs.Option.{option_map}
use Rattle.clr_rows.specs.declared.rows.Row.{Row}
use Rattle.clr_rows.specs.Contents.{Content, no_rows}
use Rattle.clr_workspaces.specs.Marks.{Name}
use Rattle.clr_needs.specs.declared.needs.VersionId.{VersionId}
use Rattle.clr_needs.specs.Settings.{version}
use Rattle.clr_steps.specs.Offices.{Office, content_of}
use Rattle.clr_steps.specs.Quiet.{MergeSet}
use Rattle.clr_steps.specs.Readings.{if_stands}
use Rattle.clr_clearance.specs.MergeSets.{change_sets, setting_by_position}
use Rattle.clr_member_changes.specs.declared.member_changes.MemberChanges.{MemberChanges}

-- what is read of the members of a merge set
pub record AreMembers (o : Office) (s : MergeSet) (members : MemberChanges) : Type 0 where
  pub root : members.root.now ≡ s.root
  pub changes : members.changes.items ≡ change_sets o s

-- the merge set of a root and members
abbrev pub set_of : MemberChanges → MergeSet
set_of members = record { root = members.root.now; members = map (λ name. name.now) members.names.now }

-- the rows of a root, and none if there is no such root
abbrev pub rows_of_root : Office → Name → Content
rows_of_root o root = unwrap_or (if_stands o root (content_of o root)) no_rows

-- the row of a version of a merge set, if it has the version
abbrev pub row_in : Office → MergeSet → VersionId → Option Row
row_in o s v = option_map (λ l. l.row) (version (setting_by_position o s) v)
