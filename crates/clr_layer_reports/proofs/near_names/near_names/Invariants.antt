use Rattle.std.proofs.Common.{◌≡◌, ◌<◌, ℕ, length}
use Rattle.clr_hints.specs.Names.{IsNearest}
use Rattle.clr_layer_faults.specs.Columns.{column_name}
use Rattle.clr_layer_reports.specs.NearNames.{near_at}
use Rattle.clr_layer_reports.proofs.near_names.near_names.Given as goal

-- the names that are near those of the columns so far
abbrev pub invariant-loop-column : goal.invariant-loop-column
invariant-loop-column l = record {
  many : length l.near.items ≡ l.column;
  near : (column : ℕ) → column < l.column → IsNearest (column_name l.table column) l.names (near_at l.near.items column);
}
