use Rattle.std.proofs.Common.{◌≡◌, take}
use Rattle.std.specs.Prelude.{filter}
use Rattle.std.specs.List.{range_with_len}
use Rattle.clr_layer_faults.specs.FieldPlaces.{begins_record_at, seen, state_after}
use Rattle.clr_layer_faults.proofs.field_places.record_starts.Given as goal

-- the state of the machine behind the bytes so far, and where records begin among them
abbrev pub invariant-loop-at : goal.invariant-loop-at
invariant-loop-at l = record {
  state : seen l.reading ≡ state_after (take l.at l.bytes);
  starts : l.starts.items ≡ filter (begins_record_at l.bytes) (range_with_len 0 l.at);
}
