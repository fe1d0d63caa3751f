use Rattle.std.proofs.Common.{◌≡◌, [], drop, map}
use Rattle.clr_rule_text.specs.Seen.{items_seen}
use Rattle.clr_deltas.specs.NamedDeltas.{stored_delta}
use Rattle.clr_office_reading.specs.Workspaces.{HasNames, deltas_after}
use Rattle.clr_office_reading.proofs.workspaces.each_workspace.Given as goal

-- the other workspaces after those so far are what is meant, and the names are those of these
abbrev pub invariant-loop-item : goal.invariant-loop-item
invariant-loop-item g l = record {
  so_far : deltas_after l.format l.schema (map stored_delta l.parts.items) (items_seen g.J.JsonValue.stands_for (drop l.item-index l.items))
      ≡ deltas_after l.format l.schema [] (items_seen g.J.JsonValue.stands_for l.items);
  named : HasNames l.names (map stored_delta l.parts.items);
}
