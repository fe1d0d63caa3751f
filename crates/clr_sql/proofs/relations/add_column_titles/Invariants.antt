use Rattle.std.proofs.Common.{◌≡◌, ◌++◌, take}
use Rattle.std.specs.List.{flat_map}
use Rattle.clr_sql.specs.Relations.{column_title}
use Rattle.clr_sql.proofs.relations.add_column_titles.Given as goal

-- the names so far are added
abbrev pub invariant-loop-column : goal.invariant-loop-column
invariant-loop-column l = l.text.items ≡ l.initial.text.items ++ flat_map column_title (take l.column-index l.columns)
