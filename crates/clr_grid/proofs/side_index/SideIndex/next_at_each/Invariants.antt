use Rattle.std.proofs.Common.{take}
use Rattle.clr_finders.specs.NextCells.{IsNextOf}
use Rattle.clr_grid.proofs.NextLemmas.{HasCellAtSome}
use Rattle.clr_grid.proofs.side_index.SideIndex.next_at_each.Given as goal

-- the first cell at the spots so far
abbrev pub invariant-loop-spot : goal.invariant-loop-spot
invariant-loop-spot l = IsNextOf (HasCellAtSome l.self l.after l.spots (take l.spot-index l.spots)) l.after l.next
