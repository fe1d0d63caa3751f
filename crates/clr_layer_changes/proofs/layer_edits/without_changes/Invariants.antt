use Rattle.std.proofs.Common.{◌≡◌, ◌++◌, filter, map}
use Rattle.clr_rows.specs.Sheets.{with_none}
use Rattle.clr_layer_changes.specs.LayerEdits.{changed_cells_in, is_change_in}
use Rattle.clr_layer_changes.proofs.layer_edits.without_changes.Given as goal

-- the cells so far, with those of the changes that are left, are all of them
abbrev pub invariant-loop-cell : goal.invariant-loop-cell
invariant-loop-cell l = l.cells.items ++ with_none (map (λ e. e.0) (filter (is_change_in l.table) l.cell-iterator)) ≡ with_none (changed_cells_in l.set l.table)
