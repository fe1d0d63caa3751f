-- Deltas without neutral differences: no difference has the row of what it lies over.
use Rattle.std.specs.Prelude.{◌≡◌, ℕ, ◌<◌, false, List, Option, None, Some, length, map, unwrap_or}
use Rattle.std.specs.FinMap as finite
use Rattle.clr_rows.specs.declared.cells.CellId.{CellId}
use Rattle.clr_rows.specs.declared.rows.Row.{Row}
use Rattle.clr_rows.specs.Contents.{Content, no_rows, row_at}
use Rattle.clr_deltas.specs.Differences.{is_among, IsOwnOver}
use Rattle.clr_deltas.specs.Deltas.{Delta, delta_at, wholes, swept_mark, swept_mark_at, AreOwnOver, IsUnder}
use Rattle.clr_deltas.specs.declared.stored_marks.StoredMark.{StoredMark}
use Rattle.clr_workspaces.specs.Workspaces.{Workspace, workspace_at, parent_of}
use Rattle.clr_contents.specs.SeenRows.{StaysOwnAt}

-- the current content of the parent
abbrev pub content_above : List Workspace → Option ℕ → Content
content_above ws None = no_rows
content_above ws (Some above) = (workspace_at ws above).current

abbrev pub content_of_parent : List Workspace → ℕ → Content
content_of_parent ws at = content_above ws (parent_of ws at)

-- marks without the differences that have the row of the base
abbrev pub swept_marks : Content → List StoredMark → List StoredMark
swept_marks base marks = map (swept_mark base) marks

-- marks without the differences at some cells that have the row of the base
abbrev pub swept_marks_at : Content → List CellId → List StoredMark → List StoredMark
swept_marks_at base cells marks = map (swept_mark_at base cells) marks

-- a delta has no neutral difference at a cell where its parent's content has this row
pub record IsLeanAt (above : Option Row) (l : Delta) (q : CellId) : Type 0 where
  pub base : IsOwnOver above (finite.get l.base q)
  pub current : IsOwnOver (unwrap_or (finite.get l.base q) above) (finite.get l.current q)
  pub saved : AreOwnOver (unwrap_or (finite.get l.base q) above) q l.marks

-- the row of the parent's content at a cell
abbrev pub row_above : List Workspace → ℕ → CellId → Option Row
row_above ws k q = row_at (content_of_parent ws k) q

-- a delta has no neutral difference at any cell
abbrev pub IsLeanOver : List Workspace → ℕ → Delta → Type 0
IsLeanOver ws k l = (q : CellId) → IsLeanAt (row_above ws k q) l q

-- none of the deltas under LIVE has a neutral difference
abbrev pub IsLean : Content → List Delta → Type 0
IsLean live ls = (k : ℕ) → 0 < k → k < length ls → IsLeanOver (wholes live ls) k (delta_at ls k)

-- a workspace at one of some cells isn't the one at a position, nor a child of it
pub record IsElsewhere (ws : List Workspace) (at : ℕ) (cells : List CellId) (k : ℕ) (q : CellId) : Type 0 where
  pub other : k ≡ at → is_among cells q ≡ false
  pub under : parent_of ws k ≡ Some at → is_among cells q ≡ false

-- a delta has no neutral difference but at some cells, and there only as the one at a position or a child of it
abbrev pub IsLeanBeside : List Workspace → ℕ → List CellId → ℕ → Delta → Type 0
IsLeanBeside ws at cells k l = (q : CellId) → IsElsewhere ws at cells k q → IsLeanAt (row_above ws k q) l q

-- none of the deltas under LIVE has a neutral difference but the one at a position and its children at some cells
abbrev pub IsLeanBut : ℕ → List CellId → Content → List Delta → Type 0
IsLeanBut at cells live ls = (k : ℕ) → 0 < k → k < length ls → IsLeanBeside (wholes live ls) at cells k (delta_at ls k)

-- deltas have no more neutral differences than they had, but the one at a position and its children at some cells
abbrev pub StayOwnButNear : ℕ → List CellId → List Delta → List Delta → Type 0
StayOwnButNear at cells ls ms = (k : ℕ) (q : CellId) → (k ≡ at → is_among cells q ≡ false)
    → (IsUnder (delta_at ls at).name (delta_at ls k) → is_among cells q ≡ false) → StaysOwnAt q (delta_at ls k) (delta_at ms k)
