-- Parts of operations: rows put, one row moved, a mark moved.
use Rattle.std.specs.Prelude.{ℕ, zero, suc, List, [], ◌∷◌, ◌++◌, Option}
use Rattle.clr_rows.specs.declared.cells.CellId.{CellId}
use Rattle.clr_rows.specs.declared.rows.Row.{Row}
use Rattle.clr_rows.specs.Contents.{row_at, set_cell, over}
use Rattle.clr_deltas.specs.Differences.{RowsByCell}
use Rattle.clr_workspaces.specs.Marks.{Name}
use Rattle.clr_workspaces.specs.Workspaces.{Workspace, workspace_at}
use Rattle.clr_deltas.specs.Deltas.{Delta, delta_changed, stored_without_mark_of}
use Rattle.clr_deltas.specs.declared.stored_marks.StoredMark.TheVariants.{Child}
use Rattle.clr_workspaces.specs.Operations.{change_workspace, with_current}

-- rows put over the current content of the workspace at a position
abbrev pub put_into : List Workspace → ℕ → RowsByCell → List Workspace
put_into ws at rows = change_workspace ws at (λ w. with_current (over w.current rows) w)

-- the base of a workspace takes its parent's row over at a cell, and its current content another row
abbrev pub row_moved : List Workspace → ℕ → ℕ → CellId → Option Row → List Workspace
row_moved ws at above cell row =
    let v = (workspace_at ws above).current in
    change_workspace ws at (λ w. record w { base = set_cell w.base cell (row_at v cell); current = set_cell w.current cell row })

-- the mark of a child moved to the end, where the delta isn't LIVE's
abbrev pub mark_moved : List Delta → ℕ → Name → List Delta
mark_moved ls zero child = ls
mark_moved ls (suc k) child = delta_changed ls (suc k) (λ l. record l { marks = stored_without_mark_of child l.marks ++ Child child ∷ [] })
