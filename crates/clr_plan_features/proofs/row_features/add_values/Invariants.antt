use Rattle.std.proofs.Common.{◌≡◌, ◌++◌, map, take}
use Rattle.std.specs.List.{zip}
use Rattle.clr_plan_features.specs.RowFeatures.{column_property}
use Rattle.clr_plan_features.proofs.row_features.add_values.Given as goal

-- the values so far are added
abbrev pub invariant-loop-at : goal.invariant-loop-at
invariant-loop-at l = l.list.items ≡ l.initial.list.items ++ map column_property (take l.at (zip l.columns l.values))
