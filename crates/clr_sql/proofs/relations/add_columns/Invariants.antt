use Rattle.std.proofs.Common.{◌≡◌, ◌++◌, take}
use Rattle.std.specs.List.{flat_map}
use Rattle.clr_sql.specs.Relations.{column_name}
use Rattle.clr_sql.proofs.relations.add_columns.Given as goal

-- the names so far are added
abbrev pub invariant-loop-column : goal.invariant-loop-column
invariant-loop-column l = l.text.items ≡ l.initial.text.items ++ flat_map column_name (take l.column-index l.columns)
