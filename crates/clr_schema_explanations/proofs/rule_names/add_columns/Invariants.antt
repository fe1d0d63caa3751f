use Rattle.std.proofs.Common.{◌≡◌, ◌++◌, drop, map}
use Rattle.std.specs.List.{enumerate_from}
use Rattle.clr_schema_explanations.specs.Names.{column_name, name_in_rule}
use Rattle.clr_schema_explanations.proofs.rule_names.add_columns.Given as goal

-- the names so far, with those of the columns that are left, are all of them
abbrev pub invariant-loop-at : goal.invariant-loop-at
invariant-loop-at l =
    map name_in_rule l.names.items ++ map (column_name l.key l.table) (enumerate_from l.at (drop l.at l.listed))
    ≡ map name_in_rule l.initial.names.items ++ map (column_name l.key l.table) (enumerate_from 0 l.columns)
