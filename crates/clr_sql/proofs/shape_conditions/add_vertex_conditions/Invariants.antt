use Rattle.std.proofs.Common.{◌≡◌, ◌+◌, ◌++◌, drop}
use Rattle.std.specs.List.{enumerate_from, flat_map}
use Rattle.clr_sql.specs.Shapes.{vertex_condition}
use Rattle.clr_sql.proofs.shape_conditions.add_vertex_conditions.Given as goal

-- the conditions so far, with those of the vertices that are left, are all of them
abbrev pub invariant-loop-at : goal.invariant-loop-at
invariant-loop-at l =
    l.text.items ++ flat_map (vertex_condition l.origin) (enumerate_from (l.at + 1) (drop l.at l.places))
    ≡ l.initial.text.items ++ flat_map (vertex_condition l.origin) (enumerate_from 1 l.places)
