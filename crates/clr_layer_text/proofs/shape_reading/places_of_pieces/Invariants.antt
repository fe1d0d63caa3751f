use Rattle.std.proofs.Common.{◌≡◌, ◌+◌, drop, map}
use Rattle.clr_records.specs.Records.{in_turn}
use Rattle.clr_readings.proofs.Fronts.{with_front}
use Rattle.clr_layer_text.specs.Wkt.{place_of, places_between}
use Rattle.clr_layer_text.proofs.shape_reading.places_of_pieces.Given as goal

-- the places so far, and then those of the pieces that are left, are all the places
abbrev pub invariant-loop-piece : goal.invariant-loop-piece
invariant-loop-piece l = with_front l.places.items (in_turn (λ _ piece. place_of l.rounded piece.now) (0 + l.piece-index) (drop l.piece-index l.pieces))
    ≡ places_between l.rounded (map (λ piece. piece.now) l.pieces)
