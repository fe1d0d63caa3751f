use Rattle.std.proofs.Common.{◌≡◌, [], drop, map}
use Rattle.serde_json.specs.View.{items_view}
use Rattle.clr_deltas.specs.NamedDeltas.{stored_delta}
use Rattle.clr_office_reading.specs.Workspaces.{HasNames}
use Rattle.clr_faults.specs.FirstFaults.{first_fault_from}
use Rattle.clr_faults.specs.Readings.{deltas_with}
use Rattle.clr_faults.proofs.workspace_lists.workspace_fault_in.Given as goal

-- the first fault of the other workspaces, behind those so far, is that of all, and the names are those of these
abbrev pub invariant-loop-at : goal.invariant-loop-at
invariant-loop-at l = record {
  so_far : first_fault_from (deltas_with l.format l.schema) (map stored_delta l.parts.items) l.at (items_view (drop l.at l.items))
      ≡ first_fault_from (deltas_with l.format l.schema) [] 0 (items_view l.items);
  named : HasNames l.names (map stored_delta l.parts.items);
}
