-- A merge set in an office: the rows of its root, what each member changed, and when entries cover its members.
use Rattle.std.specs.Prelude.{◌≡◌, ℕ, Bool, true, false, not, ◌&&◌, List, [], map, Option, Decides}
use Rattle.std.specs.Cmp.Lexicographic.{bytes_decides}
use Rattle.std.specs.Option.{option_map_or}
use Rattle.clr_rows.specs.declared.cells.CellId.{CellId}
use Rattle.clr_rows.specs.declared.rows.Row.{Row}
use Rattle.clr_rows.specs.Contents.{Changes, Content, is_changed, row_at}
use Rattle.clr_rules.specs.Needs.{BreaksNoMore, Holds, View}
use Rattle.clr_workspaces.specs.Marks.{Name}
use Rattle.clr_needs.specs.Covers.{AreCovered, Entry}
use Rattle.clr_needs.specs.Members.{after_in, setting}
use Rattle.clr_needs.specs.Positions.{AreDistinct}
use Rattle.clr_needs.specs.Settings.{Setting, AreDisjoint, AreAmong, view_with}
use Rattle.clr_steps.specs.Names.{same_name}
use Rattle.clr_steps.specs.Offices.{Office, workspace}
use Rattle.clr_steps.specs.Quiet.{MergeSet, IsRootKept, is_member, is_root, root_content}
use Rattle.clr_steps.specs.Readings.{changes_in, conflicts_in}

pub same_name_decides : (a b : Name) → Decides (same_name a b) (a ≡ b)
unfolding same_name
same_name_decides = bytes_decides

-- what the workspace of a name has at a cell that it changed
abbrev pub changed_by : Office → Name → CellId → Option (Option Row)
changed_by o name = after_in (changes_in o name)

-- the root's rows, and the changes of each member by name
abbrev pub setting_of : Office → MergeSet → Setting Name
setting_of o merge_set = record {
  rules = o.book;
  root = row_at (root_content o merge_set);
  members = merge_set.members;
  after = changed_by o;
  same = same_name;
  decides = same_name_decides;
}

-- the root's rows taken over by the changes of each of some members
abbrev pub rows_with : Office → MergeSet → List Name → View
rows_with o merge_set names = view_with (setting_of o merge_set) names

-- what each member changed, in the order of the list
abbrev pub change_sets : Office → MergeSet → List Changes
change_sets o merge_set = map (changes_in o) merge_set.members

-- the members by position
abbrev pub setting_by_position : Office → MergeSet → Setting ℕ
setting_by_position o merge_set = setting o.book (root_content o merge_set) (change_sets o merge_set)

-- a workspace under the root, which is no child of itself
abbrev pub is_child : Office → MergeSet → Name → Bool
is_child o merge_set name = not (is_root merge_set name) && option_map_or (λ w. is_root merge_set w.parent) (workspace o name) false

-- different children of a kept root, none in conflict with it, and no cell changed by two
pub record AreMergeable (o : Office) (merge_set : MergeSet) : Type 0 where
  pub kept : IsRootKept o merge_set
  pub distinct : AreDistinct (setting_of o merge_set)
  pub children : (name : Name) → is_member merge_set name ≡ true → is_child o merge_set name ≡ true
  pub free : (name : Name) → is_member merge_set name ≡ true → conflicts_in o name ≡ []
  pub apart : AreDisjoint (setting_of o merge_set)

-- the members are mergeable, and each need that they touch has an entry that covers it
pub record Covers (o : Office) (merge_set : MergeSet) (entries : List Entry) : Type 0 where
  pub mergeable : AreMergeable o merge_set
  pub covered : AreCovered (setting_by_position o merge_set) entries

-- every rule holds in the root
abbrev pub RootHolds : Office → MergeSet → Type 0
RootHolds o merge_set = Holds o.book (row_at (root_content o merge_set))

-- with the changes of more members over it, the root breaks no need but those that it breaks with fewer
abbrev pub MembersBreakNoMore : Office → MergeSet → Type 0
MembersBreakNoMore o merge_set = (fewer more : List Name) → AreAmong (setting_of o merge_set) fewer more
    → AreAmong (setting_of o merge_set) more merge_set.members
    → BreaksNoMore o.book (rows_with o merge_set fewer) (rows_with o merge_set more)

-- every rule holds whichever members' changes are over the root
abbrev pub KeepsRules : Office → MergeSet → Type 0
KeepsRules o merge_set = (names : List Name) → AreAmong (setting_of o merge_set) names merge_set.members → Holds o.book (rows_with o merge_set names)

-- at each cell where a content differs from its base, these rows have the row of the base
abbrev pub AgreesWith : View → Content → Content → Type 0
AgreesWith view base current = (cell : CellId) → is_changed base current cell ≡ true → view cell ≡ row_at base cell
