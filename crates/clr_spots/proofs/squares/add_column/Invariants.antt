use Rattle.std.proofs.Common.{◌≡◌, ◌++◌}
use Rattle.clr_spots.specs.Spots.{column_of_squares}
use Rattle.clr_spots.proofs.squares.add_column.Given as goal

-- k squares are added
abbrev pub invariant-loop-k : goal.invariant-loop-k
invariant-loop-k l = l.list.items ≡ l.initial.list.items ++ column_of_squares l.i l.j l.k
