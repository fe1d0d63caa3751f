-- What each call makes of the workspaces of a tree, by position.
use Rattle.std.specs.Prelude.{ℕ, zero, suc, Bool, false, List, [], ◌∷◌, ◌++◌, Option, Some, None, take, drop, remove, slice_set}
use Rattle.clr_rows.specs.declared.cells.CellId.{CellId}
use Rattle.clr_rows.specs.Contents.{Content, row_at, set_cell, Changes, changes, taken_over}
use Rattle.clr_workspaces.specs.Marks.{Name, Mark, Saved, ChildMark, mark_at, saved_content, without_saved, without_mark_of, mark_last}
use Rattle.clr_workspaces.specs.Workspaces.{Workspace, workspace_at, parent_of}
use Rattle.clr_workspaces.specs.declared.rebases.Keep.{Keep}
use Rattle.clr_workspaces.specs.declared.rebases.Keep.TheVariants as keeps
use Rattle.clr_workspaces.specs.declared.rebases.Rebase.{Rebase}
use Rattle.clr_workspaces.specs.declared.rebases.Rebase.TheVariants.{Refresh, Merge, OneRow}

-- what becomes of one workspace ------------------------------------------------------------------

-- a new workspace, which sees what its parent sees
abbrev pub new_leaf : Name → Name → Content → Workspace
new_leaf name parent content = record { name = name; parent = parent; base = content; current = content; marks = []; kept = false }

abbrev pub with_marks : (List Mark → List Mark) → Workspace → Workspace
with_marks f w = record w { marks = f w.marks }

abbrev pub with_current : Content → Workspace → Workspace
with_current content w = record w { current = content }

abbrev pub with_kept : Bool → Workspace → Workspace
with_kept kept w = record w { kept = kept }

-- marks with the mark of a child at the end
abbrev pub with_mark_of : Name → List Mark → List Mark
with_mark_of child marks = marks ++ ChildMark child ∷ []

-- a savepoint with the current content, at the end of the marks
abbrev pub save : Name → Workspace → Workspace
save name w = record w { marks = w.marks ++ Saved name w.current ∷ [] }

-- the current content becomes that of the savepoint at a position of the marks; later savepoints go
abbrev pub roll_to : ℕ → Workspace → Workspace
roll_to i w = record w { current = saved_content (mark_at w.marks i); marks = take (suc i) w.marks ++ without_saved (drop (suc i) w.marks) }

-- the current content becomes the base; the savepoints go
abbrev pub roll_all : Workspace → Workspace
roll_all w = record w { current = w.base; marks = without_saved w.marks }

-- what a workspace changed
abbrev pub own_changes : Workspace → Changes
own_changes w = changes w.base w.current

-- the base becomes the parent's content, and the current content that with the own changes over it; the savepoints go
abbrev pub refresh : Content → Workspace → Workspace
refresh above w = record w { base = above; current = taken_over above (own_changes w); marks = without_saved w.marks }

-- the base takes the own changes over; the savepoints go
abbrev pub with_base_merged : Workspace → Workspace
with_base_merged w = record w { base = taken_over w.base (own_changes w); marks = without_saved w.marks }

-- the base takes its parent's row over at a cell, and the current content keeps its own, or takes the parent's, or that of the old base
abbrev pub keep_row : CellId → Keep → Content → Workspace → Workspace
keep_row cell keeps.Parent above w = record w { base = set_cell w.base cell (row_at above cell); current = set_cell w.current cell (row_at above cell) }
keep_row cell keeps.Child above w = record w { base = set_cell w.base cell (row_at above cell) }
keep_row cell keeps.Base above w = record w { base = set_cell w.base cell (row_at above cell); current = set_cell w.current cell (row_at w.base cell) }

-- what becomes of all ------------------------------------------------------------------------------

-- the workspace at a position changed
abbrev pub change_workspace : List Workspace → ℕ → (Workspace → Workspace) → List Workspace
change_workspace ws at f = slice_set ws at (f (workspace_at ws at))

-- the workspace at a position taken out
abbrev pub without_at : List Workspace → ℕ → List Workspace
without_at ws at = remove ws at

-- the marks of a workspace changed, where that isn't LIVE
abbrev pub change_marks : List Workspace → ℕ → (List Mark → List Mark) → List Workspace
change_marks ws zero f = ws
change_marks ws (suc k) f = change_workspace ws (suc k) (with_marks f)

-- an operation that names the position of the parent, where there is one
abbrev pub at_position : List Workspace → Option ℕ → (ℕ → List Workspace) → List Workspace
at_position ws None f = ws
at_position ws (Some above) f = f above

abbrev pub under_parent : List Workspace → ℕ → (ℕ → List Workspace) → List Workspace
under_parent ws at f = at_position ws (parent_of ws at) f

-- a new leaf at the end, under the workspace at a position, and its mark there
abbrev pub after_create : List Workspace → Name → ℕ → List Workspace
after_create ws name at = let above = workspace_at ws at in change_marks ws at (with_mark_of name) ++ new_leaf name above.name above.current ∷ []

-- the workspace at a position goes, and its mark; its parent stands earlier, and keeps its position
abbrev pub after_remove_under : List Workspace → ℕ → ℕ → List Workspace
after_remove_under ws at above = change_workspace (without_at ws at) above (with_marks (without_mark_of (workspace_at ws at).name))

abbrev pub after_remove : List Workspace → ℕ → List Workspace
after_remove ws at = under_parent ws at (after_remove_under ws at)

-- changes taken over by the current content
abbrev pub after_write : List Workspace → ℕ → Changes → List Workspace
after_write ws at changed = change_workspace ws at (λ w. with_current (taken_over w.current changed) w)

abbrev pub after_mark : List Workspace → ℕ → Name → List Workspace
after_mark ws at name = change_workspace ws at (save name)

abbrev pub after_unmark : List Workspace → ℕ → ℕ → List Workspace
after_unmark ws at i = change_workspace ws at (with_marks (λ ms. remove ms i))

abbrev pub after_roll_to : List Workspace → ℕ → ℕ → List Workspace
after_roll_to ws at i = change_workspace ws at (roll_to i)

abbrev pub after_roll_all : List Workspace → ℕ → List Workspace
after_roll_all ws at = change_workspace ws at roll_all

abbrev pub set_kept : List Workspace → ℕ → Bool → List Workspace
set_kept ws at kept = change_workspace ws at (with_kept kept)

-- the mark of the workspace goes to the end of its parent's
abbrev pub after_refresh : List Workspace → ℕ → ℕ → List Workspace
after_refresh ws at above =
    let w = workspace_at ws at in
    let content = (workspace_at ws above).current in
    change_workspace (change_marks ws above (mark_last w.name)) at (refresh content)

-- the own changes are taken over by the parent's content
abbrev pub after_merge : List Workspace → ℕ → ℕ → List Workspace
after_merge ws at above = let w = workspace_at ws at in change_workspace (after_write ws above (own_changes w)) at with_base_merged

abbrev pub after_resolve : List Workspace → ℕ → ℕ → CellId → Keep → List Workspace
after_resolve ws at above cell keep = change_workspace ws at (keep_row cell keep (workspace_at ws above).current)

abbrev pub after_rebase_under : List Workspace → ℕ → Rebase → ℕ → List Workspace
after_rebase_under ws at Refresh above = after_refresh ws at above
after_rebase_under ws at Merge above = after_merge ws at above
after_rebase_under ws at (OneRow cell keep) above = after_resolve ws at above cell keep

abbrev pub after_rebase : List Workspace → ℕ → Rebase → List Workspace
after_rebase ws at rebase = under_parent ws at (after_rebase_under ws at rebase)
