use Rattle.std.proofs.Common.{◌≡◌, filter, take}
use Rattle.std.specs.FinMap as finite
use Rattle.clr_finders.specs.Sharing.{is_met_at}
use Rattle.clr_finders.proofs.row_maps.RowMap.find_among.Given as goal

-- the cells found among those so far
abbrev pub invariant-loop-cell : goal.invariant-loop-cell
invariant-loop-cell l = l.list.items ≡ filter (λ q. is_met_at l.servers l.spots l.rule (finite.get l.self.settled q)) (take l.cell-index l.cells)
