use Rattle.std.proofs.Common.{◌≡◌, ◌++◌, filter}
use Rattle.std.specs.FinMap as finite
use Rattle.clr_finders.specs.Sharing.{is_met_at}
use Rattle.clr_finders.proofs.row_maps.RowMap.find_all.Given as goal

-- the cells found so far, with those found among what is left, are all that are found
abbrev pub invariant-loop-cell : goal.invariant-loop-cell
invariant-loop-cell l = l.list.items ++ filter (λ q. is_met_at l.servers l.spots l.rule (finite.get l.self.settled q)) l.cell-iterator
    ≡ filter (λ q. is_met_at l.servers l.spots l.rule (finite.get l.self.settled q)) l.initial.cell-iterator
