use Rattle.clr_layer_faults.specs.FoundFaults.{header_fault}
use Rattle.clr_layer_faults.proofs.RangeLemmas.{kept_more}
use Rattle.clr_layer_faults.proofs.header_faults.column_faults.Goals as goal

pub loop-column-preserved : goal.loop-column-preserved
loop-column-preserved c =
    kept_more (header_fault c.args.table.now c.args.names.now) c.loop-column.column _ _ _ c.loop-column.invariant c.in_ok-add_found.ensures
    c.header_fault.ensures
