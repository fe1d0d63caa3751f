use Rattle.std.proofs.Common.{◌≡◌, map, take}
use Rattle.std.specs.List.{flat_map}
use Rattle.clr_independence.specs.IndependenceLines.{independence_line}
use Rattle.clr_independence.proofs.lines_of_pairs.pair_lines.Given as goal

-- the lines of the pairs so far
abbrev pub invariant-loop-pair : goal.invariant-loop-pair
invariant-loop-pair l = l.lines.items ≡ flat_map (independence_line (map (λ name. name.now) l.members)) (take l.pair-index l.pairs)
