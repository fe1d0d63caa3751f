use Rattle.std.proofs.Common.{◌≡◌}
use Rattle.clr_spots.specs.Spots.{grid_of_squares}
use Rattle.clr_spots.proofs.squares.list_grid.Given as goal

-- k columns are listed
abbrev pub invariant-loop-k : goal.invariant-loop-k
invariant-loop-k l = l.list.items ≡ grid_of_squares l.i l.j l.k l.n
