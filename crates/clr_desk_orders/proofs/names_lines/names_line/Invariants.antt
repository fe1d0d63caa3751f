use Rattle.std.proofs.Common.{◌≡◌, ◌++◌, codes, length, map, take}
use Rattle.std.specs.Fmt.{decimal}
use Rattle.std.specs.List.{flat_map}
use Rattle.clr_desk_orders.proofs.names_lines.names_line.Given as goal

-- the word, the count and the names so far
abbrev pub invariant-loop-name : goal.invariant-loop-name
invariant-loop-name l = l.line.items ≡ l.word ++ codes " " ++ decimal (length l.names) ++ flat_map (λ name. codes " " ++ name)
    (map (λ name. name.now) (take l.name-index l.names))
