use Rattle.std.proofs.Common.{◌≡◌, ◌++◌, filter, map}
use Rattle.clr_rows.specs.Sheets.{with_none}
use Rattle.clr_layer_changes.specs.Wanted.{table_cells_in, is_in}
use Rattle.clr_layer_changes.proofs.wanted.without_rows.Given as goal

-- the cells so far, with those of the rows that are left, are all of them
abbrev pub invariant-loop-cell : goal.invariant-loop-cell
invariant-loop-cell l = l.cells.items ++ with_none (map (λ e. e.0) (filter (is_in l.table) l.cell-iterator)) ≡ with_none (table_cells_in l.content l.table)
