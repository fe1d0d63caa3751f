use Rattle.std.proofs.Common.{◌≡◌, length, map, take}
use Rattle.clr_rows.specs.Schemas.{names_of}
use Rattle.clr_hints.proofs.schema_names.column_names.Given as goal

-- the names of the columns so far
abbrev pub invariant-loop-column : goal.invariant-loop-column
invariant-loop-column l = record {
  whole : l.column-index-end ≡ length l.table.columns;
  same : l.column-items ≡ l.table.columns;
  named : map (λ name. name.now) l.names.items ≡ names_of (take l.column-index l.table.columns);
}
