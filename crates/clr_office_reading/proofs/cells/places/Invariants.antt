use Rattle.std.proofs.Common.{◌≡◌, length}
use Rattle.clr_rule_text.specs.Seen.{items_seen}
use Rattle.clr_office_reading.specs.Cells.{places_of}
use Rattle.clr_readings.proofs.Fronts.{with_front}
use Rattle.clr_office_reading.proofs.cells.places.Given as goal

-- the places so far, with those of the numbers that are left, are all the places
abbrev pub invariant-loop-rest : goal.invariant-loop-rest
invariant-loop-rest g l = with_front l.places.items (places_of (items_seen g.J.JsonValue.stands_for l.rest))
    ≡ places_of (items_seen g.J.JsonValue.stands_for l.numbers)

abbrev pub decreases-loop-rest : goal.decreases-loop-rest
decreases-loop-rest g l = length l.rest
