-- What holds of a merge set after every list of quiet commands.
use Rattle.std.specs.Prelude.{◌≡◌, true, List, Some, None, if◌then◌else◌}
use Rattle.std.specs.Option.{option_map}
use Rattle.clr_rows.specs.declared.cells.CellId.{CellId}
use Rattle.clr_rows.specs.Contents.{change_at, row_at}
use Rattle.clr_workspaces.specs.Marks.{Name}
use Rattle.clr_needs.specs.Settings.{AreAmong}
use Rattle.clr_steps.specs.Names.{has}
use Rattle.clr_steps.specs.Offices.{Office, workspace}
use Rattle.clr_steps.specs.Quiet.{IsRootKept, Member, MergeSet, is_member, is_root, member_of, root_content}
use Rattle.clr_clearance.specs.MergeSets.{AgreesWith, changed_by, rows_with, setting_of}

-- a member that stands is a child of the root; once it is merged it has no changes, and until then it has those that it had; where it has changes,
-- the root has the row that the member took over
pub record IsMemberNow (first : Office) (merge_set : MergeSet) (names : List Name) (now : Office) (name : Name) (m : Member) : Type 0 where
  pub under : is_root merge_set m.parent ≡ true
  pub changes : (cell : CellId) → change_at m.base m.current cell ≡ (if has names name then None else changed_by first name cell)
  pub agrees : AgreesWith (row_at (root_content now merge_set)) m.base m.current

-- the root is kept and has its first rows with the changes of the merged members over them
pub record Invariant (first : Office) (merge_set : MergeSet) (names : List Name) (now : Office) : Type 0 where
  pub book : now.book ≡ first.book
  pub kept : IsRootKept now merge_set
  pub part : AreAmong (setting_of first merge_set) names merge_set.members
  pub rows : (cell : CellId) → row_at (root_content now merge_set) cell ≡ rows_with first merge_set names cell
  pub members : (name : Name) (m : Member) → is_member merge_set name ≡ true → option_map member_of (workspace now name) ≡ Some m
      → IsMemberNow first merge_set names now name m
