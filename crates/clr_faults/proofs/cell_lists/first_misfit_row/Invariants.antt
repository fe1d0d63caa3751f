use Rattle.std.proofs.Common.{◌≡◌, drop}
use Rattle.serde_json.specs.View.{items_view}
use Rattle.clr_rows.specs.Contents.{no_rows}
use Rattle.clr_faults.specs.FirstFaults.{first_fault_from}
use Rattle.clr_faults.specs.Readings.{put_row_of}
use Rattle.clr_faults.proofs.cell_lists.first_misfit_row.Given as goal

-- the first fault of the other rows, over those put so far, is that of all
abbrev pub invariant-loop-at : goal.invariant-loop-at
invariant-loop-at l =
    first_fault_from (put_row_of l.schema) l.sheet l.at (items_view (drop l.at l.items))
    ≡ first_fault_from (put_row_of l.schema) no_rows 0 (items_view l.items)
