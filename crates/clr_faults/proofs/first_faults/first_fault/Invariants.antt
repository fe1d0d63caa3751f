use Rattle.std.proofs.Common.{◌≡◌, drop}
use Rattle.serde_json.specs.View.{items_view}
use Rattle.clr_faults.specs.FirstFaults.{alone, first_fault_from}
use Rattle.clr_faults.proofs.first_faults.first_fault.Given as goal

-- the first fault of the other items is that of all
abbrev pub invariant-loop-at : goal.invariant-loop-at
invariant-loop-at g l =
    first_fault_from (alone (g.I.Item.reads l.kind)) tt l.at (items_view (drop l.at l.items))
    ≡ first_fault_from (alone (g.I.Item.reads l.kind)) tt 0 (items_view l.items)
