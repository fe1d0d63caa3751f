use Rattle.std.proofs.Common.{◌≡◌, ◌++◌}
use Rattle.std.specs.List.{flat_map, zip}
use Rattle.clr_sql.specs.Conditions.{value_condition}
use Rattle.clr_sql.proofs.conditions.add_value_conditions.Given as goal

-- the conditions so far, with those of the values that are left, are all of them
abbrev pub invariant-loop-name : goal.invariant-loop-name
invariant-loop-name l = l.text.items ++ flat_map value_condition (zip l.name-iterator.a.rest.now l.name-iterator.b.rest.now)
    ≡ l.initial.text.items ++ flat_map value_condition (zip l.table.columns l.row.values)
