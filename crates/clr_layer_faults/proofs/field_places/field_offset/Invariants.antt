use Rattle.std.proofs.Common.{◌≡◌, ◌+◌, ◌≤◌, length, take}
use Rattle.std.specs.List.{find, range_with_len}
use Rattle.clr_layer_changes.proofs.KeyLemmas.{first_within}
use Rattle.clr_layer_faults.specs.FieldPlaces.{Scan, ends_before, scan_of, seen}
use Rattle.clr_layer_faults.proofs.field_places.field_offset.Given as goal

-- the state of the machine and the fields that have ended behind the bytes so far, and that the field begins at none of them
abbrev pub invariant-loop-at : goal.invariant-loop-at
invariant-loop-at l = record {
  scan : ◌≡◌ {A = Scan} (seen l.reading, l.ended) (scan_of (take l.at l.bytes));
  left : first_within (ends_before l.bytes l.field) (length l.bytes + 1) l.at
      ≡ find (ends_before l.bytes l.field) (range_with_len 0 (length l.bytes + 1));
  small : l.ended ≤ l.at;
}
