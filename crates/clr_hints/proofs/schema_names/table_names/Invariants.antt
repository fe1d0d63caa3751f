use Rattle.std.proofs.Common.{◌≡◌, length, map, take}
use Rattle.clr_hints.proofs.schema_names.table_names.Given as goal

-- the names of the tables so far
abbrev pub invariant-loop-table : goal.invariant-loop-table
invariant-loop-table l = record {
  whole : l.table-index-end ≡ length l.schema;
  same : l.table-items ≡ l.schema;
  named : map (λ name. name.now) l.names.items ≡ map (λ table. table.name) (take l.table-index l.schema);
}
