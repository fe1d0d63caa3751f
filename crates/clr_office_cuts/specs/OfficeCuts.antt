-- An office that is cut out of a bigger one for a merge set: its root has some rows of the whole's root, and its members changed the same.
use Rattle.std.specs.Prelude.{◌≡◌, Bool, true, Option, Some, None, ⊤, if◌then◌else◌}
use Rattle.clr_rows.specs.declared.cells.CellId.{CellId}
use Rattle.clr_rows.specs.Contents.{Content, is_changed, row_at}
use Rattle.clr_rules.specs.Needs.{View}
use Rattle.clr_workspaces.specs.Marks.{Name}
use Rattle.clr_workspaces.specs.Workspaces.{Workspace}
use Rattle.clr_steps.specs.Offices.{Office, content_of, find_name, is_kept, stands, workspace}
use Rattle.clr_steps.specs.Quiet.{MergeSet, is_member, root_content}
use Rattle.clr_steps.specs.Readings.{changes_in, conflicts_in}
use Rattle.clr_clearance.specs.MergeSets.{is_child, setting_by_position}
use Rattle.clr_cuts.specs.Cuts.{IsCut}

-- the name stands in both, as a child of the root or not, and changed the same, in conflict at the same cells
pub record IsSameMember (whole cut : Office) (merge_set : MergeSet) (name : Name) : Type 0 where
  pub stands : stands cut name ≡ stands whole name
  pub child : is_child cut merge_set name ≡ is_child whole merge_set name
  pub changes : changes_in cut name ≡ changes_in whole name
  pub conflicts : conflicts_in cut name ≡ conflicts_in whole name

-- the rows of the root
abbrev pub root_rows : Office → MergeSet → View
root_rows o merge_set = row_at (root_content o merge_set)

-- the office is cut out of the whole for the merge set: the same rules, a root that is kept in both or in none, the same members, and a cut of its rows.
-- Nothing is asked of LIVE, where it isn't the root, nor of any other workspace
pub record IsOfficeCut (whole cut : Office) (merge_set : MergeSet) : Type 0 where
  pub book : cut.book ≡ whole.book
  pub kept : is_kept cut merge_set.root ≡ is_kept whole merge_set.root
  pub members : (name : Name) → is_member merge_set name ≡ true → IsSameMember whole cut merge_set name
  pub rows : IsCut (setting_by_position whole merge_set) (root_rows cut merge_set)

-- offices with the rows of some cells alone ---------------------------------------------------------

-- the content's rows at these cells, and no others
abbrev pub AreRowsAt : (CellId → Bool) → Content → Content → Type 0
AreRowsAt cells content part = (q : CellId) → row_at part q ≡ (if cells q then row_at content q else None)

-- the same workspace with these cells alone, among them all that it changed
pub record IsWorkspaceCut (cells : CellId → Bool) (w v : Workspace) : Type 0 where
  pub parent : v.parent ≡ w.parent
  pub kept : v.kept ≡ w.kept
  pub base : AreRowsAt cells w.base v.base
  pub current : AreRowsAt cells w.current v.current
  pub changed : (q : CellId) → is_changed w.base w.current q ≡ true → cells q ≡ true

abbrev pub IsWorkspaceCutIfAny : (CellId → Bool) → Option Workspace → Option Workspace → Type 0
IsWorkspaceCutIfAny cells None None = ⊤
IsWorkspaceCutIfAny cells None (Some v) = ⊥
IsWorkspaceCutIfAny cells (Some w) None = ⊥
IsWorkspaceCutIfAny cells (Some w) (Some v) = IsWorkspaceCut cells w v

-- an office with the rows of some cells of the whole: in the root, in each member and in what each member lies over. Other workspaces may be left out, or
-- be others
pub record IsOfficeOfCells (cells : CellId → Bool) (whole cut : Office) (merge_set : MergeSet) : Type 0 where
  pub book : cut.book ≡ whole.book
  pub root : IsWorkspaceCutIfAny cells (find_name merge_set.root whole.workspaces) (find_name merge_set.root cut.workspaces)
  pub members : (name : Name) → is_member merge_set name ≡ true
      → IsWorkspaceCutIfAny cells (find_name name whole.workspaces) (find_name name cut.workspaces)
  pub above : (name : Name) (w : Workspace) → is_member merge_set name ≡ true → workspace whole name ≡ Some w
      → AreRowsAt cells (content_of whole w.parent) (content_of cut w.parent)
