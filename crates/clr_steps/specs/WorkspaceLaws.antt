-- What commands make of the changes of one workspace.
use Rattle.std.specs.Prelude.{◌≡◌, ◌↔◌, false, Option, None}
use Rattle.clr_rows.specs.declared.cells.CellId.{CellId}
use Rattle.clr_rows.specs.declared.rows.Row.{Row}
use Rattle.clr_rows.specs.Contents.{Content, change_at}
use Rattle.clr_workspaces.specs.Workspaces.{Workspace}
use Rattle.clr_workspaces.specs.declared.rebases.Keep.{Keep}
use Rattle.clr_workspaces.specs.Operations.{with_base_merged, roll_all, refresh, keep_row}
use Rattle.clr_steps.specs.Refusals.{conflict_with, is_in_conflict_with}

-- what a workspace has at a cell that it changed
abbrev pub own_change : Workspace → CellId → Option (Option Row)
own_change w cell = change_at w.base w.current cell

-- a workspace is in conflict with a content where one of its cells is
abbrev pub ConflictLaw : Type 0
ConflictLaw = (above : Content) (w : Workspace) → (conflict_with above w ≡ None) ↔ ((cell : CellId) → is_in_conflict_with above w cell ≡ false)

-- a merge, and a rollback to the base, leave no changes
abbrev pub ChangesAfterMergeLaw : Type 0
ChangesAfterMergeLaw = (w : Workspace) (cell : CellId) → own_change (with_base_merged w) cell ≡ None

abbrev pub RollAllLaw : Type 0
RollAllLaw = (w : Workspace) (cell : CellId) → own_change (roll_all w) cell ≡ None

-- a refresh without a conflict leaves the changes as they are
abbrev pub ChangesAfterRefreshLaw : Type 0
ChangesAfterRefreshLaw = (above : Content) (w : Workspace) → conflict_with above w ≡ None → (cell : CellId) →
    own_change (refresh above w) cell ≡ own_change w cell

-- a cell that was resolved is in conflict no longer, whatever row was kept
abbrev pub ResolveLaw : Type 0
ResolveLaw = (above : Content) (w : Workspace) (cell : CellId) (keep : Keep) → is_in_conflict_with above (keep_row cell keep above w) cell ≡ false
