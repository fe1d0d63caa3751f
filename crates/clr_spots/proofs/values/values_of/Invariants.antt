use Rattle.std.proofs.Common.{◌≡◌, take}
use Rattle.std.specs.List.{filter_map}
use Rattle.clr_rows.specs.Held.{held_of}
use Rattle.clr_rules.specs.Sides.{field}
use Rattle.clr_spots.proofs.values.values_of.Given as goal

-- the columns so far are read
abbrev pub invariant-loop-column : goal.invariant-loop-column
invariant-loop-column l = l.list.items ≡ filter_map (field (held_of l.held)) (take l.column-index l.columns)
