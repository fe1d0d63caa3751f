use Rattle.std.proofs.Common.{◌≡◌, ◌++◌}
use Rattle.std.specs.FinMap as finite
use Rattle.clr_rows.specs.Sheets.{with_rows}
use Rattle.clr_layer_changes.proofs.wanted.add_rows.Given as goal

-- the rows so far, with those that are left, are all of them
abbrev pub invariant-loop-cell : goal.invariant-loop-cell
invariant-loop-cell l = l.cells.items ++ with_rows l.cell-iterator ≡ l.initial.cells.items ++ with_rows (finite.entries l.rows)
