use Rattle.std.proofs.Common.{◌≡◌, drop}
use Rattle.serde_json.specs.View.{items_view}
use Rattle.clr_deltas.specs.Differences.{no_differences}
use Rattle.clr_faults.specs.FirstFaults.{first_fault_from}
use Rattle.clr_faults.specs.Readings.{put_cell_of}
use Rattle.clr_faults.proofs.cell_lists.first_misfit_cell.Given as goal

-- the first fault of the other cells, over those put so far, is that of all
abbrev pub invariant-loop-at : goal.invariant-loop-at
invariant-loop-at l =
    first_fault_from (put_cell_of l.schema) l.differences l.at (items_view (drop l.at l.items))
    ≡ first_fault_from (put_cell_of l.schema) no_differences 0 (items_view l.items)
