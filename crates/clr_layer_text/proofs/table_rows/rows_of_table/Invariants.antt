use Rattle.std.proofs.Common.{◌≡◌, ◌++◌}
use Rattle.clr_layer_text.specs.TableRows.{rows_among, rows_of_table}
use Rattle.clr_layer_text.proofs.table_rows.rows_of_table.Given as goal

-- the rows so far, with those of the cells that are left, are all the rows
abbrev pub invariant-loop-cell : goal.invariant-loop-cell
invariant-loop-cell l = l.rows.items ++ rows_among l.table l.cell-iterator ≡ rows_of_table l.content l.table
