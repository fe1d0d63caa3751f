use Rattle.std.proofs.Common.{◌≡◌, ◌++◌, length, map, take}
use Rattle.std.specs.Fmt.{decimal}
use Rattle.std.specs.List.{flat_map}
use Rattle.clr_plan.specs.PlanLines.{order_name}
use Rattle.clr_merge_orders.proofs.lines.names_line.Given as goal

-- the word, the count, and the names so far
abbrev pub invariant-loop-at : goal.invariant-loop-at
invariant-loop-at l = l.line.items ≡ l.word ++ decimal (length l.positions)
    ++ flat_map (order_name (map (λ name. name.now) l.members)) (take l.at-index l.positions)
