use Rattle.std.proofs.Common.{◌≡◌, ◌++◌, codes, map, take}
use Rattle.std.specs.List.{flat_map}
use Rattle.clr_merge_orders.specs.OrderLines.{names_text, pair_text}
use Rattle.clr_merge_orders.proofs.lines.order_lines.Given as goal

-- the members, and the pairs so far
abbrev pub invariant-loop-pair : goal.invariant-loop-pair
invariant-loop-pair l = l.lines.items ≡ names_text (codes "order ") (map (λ name. name.now) l.members) l.order
    ++ flat_map (pair_text (map (λ name. name.now) l.members)) (take l.pair-index l.pairs)
